use Rattle.std.proofs.Common.{◌≡◌, ◌∙◌, Some, ap, arith}
use Rattle.std.proofs.lemmas.Result.{IfOk-weaker}
use Rattle.im_history.specs.Rows.{present}
use Rattle.im_group.specs.Partials.{partial}
use Rattle.im_scan.specs.inner.Walk.{standing}
use Rattle.im_scan.proofs.by_columns.column_part.Goals as goal

pub left_part-requires-clause-within : goal.left_part-requires-clause-within
left_part-requires-clause-within c = omega (arith, c.requires.within, c.if-first.false, c.first.ensures)

pub returns : goal.returns
returns c =
    let unit = c.args.unit.now in
    let begins : unit.first ≡ c.args.first = omega (arith, c.if-first.false, c.first.ensures) in
    IfOk-weaker c.left_part.result _ _
    (λ found some part is. some part is
    ∙ ap (λ n. partial c.args.asking.now (present (standing (Some unit) c.args.beside.rows.now) n c.args.count)) begins)
    c.left_part.ensures
