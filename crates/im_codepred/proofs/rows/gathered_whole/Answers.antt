use Rattle.std.proofs.Common.{◌≤◌, length, take, fold, ap, ◌∙◌, arith}
use Rattle.std.proofs.lemmas.List.{length-map, take_all}
use Rattle.im_syntax.specs.BoundFits.{value_at}
use Rattle.im_codepred.specs.inner.Slabs.{column_of}
use Rattle.im_codepred.specs.inner.Tallying.{no_totals, with_value}
use Rattle.im_codepred.proofs.rows.gathered_whole.Goals as goal

pub returns : goal.returns
returns c =
    let vs = column_of c.args.rows.now c.args.column in
    let enough : length vs ≤ c.len.result = omega (arith, length-map c.args.rows.now (λ row. value_at row c.args.column), c.len.ensures) in
    c.gather_all.ensures
    ∙ (ap (λ t. fold with_value t (take c.len.result vs)) c.none-gathered.ensures ∙ ap (fold with_value no_totals) (take_all c.len.result vs enough))
