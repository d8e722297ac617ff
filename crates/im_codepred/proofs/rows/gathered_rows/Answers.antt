use Rattle.std.proofs.Common.{fold, sym, ap, ◌∙◌}
use Rattle.std.proofs.lemmas.List.{length-map}
use Rattle.im_syntax.specs.BoundFits.{value_at}
use Rattle.im_codepred.specs.inner.Slabs.{column_of}
use Rattle.im_codepred.specs.inner.Tallying.{no_totals, with_value}
use Rattle.im_codepred.proofs.WholeLemmas.{chosen-whole}
use Rattle.im_codepred.proofs.rows.gathered_rows.Goals as goal

pub returns-then-count-len : goal.returns-then-count-len
returns-then-count-len c =
    let vs = column_of c.args.rows.now c.args.column in
    let same = length-map c.args.rows.now (λ row. value_at row c.args.column) ∙ sym c.requires.long in
    let whole = sym c.count.ensures ∙ (c.if-count-len.true ∙ c.len.ensures.len) in
    c.gathered_whole.ensures ∙ ap (fold with_value no_totals) (sym (chosen-whole c.args.mask.now vs same whole))
