use Rattle.std.proofs.Common.{ℕ, List, cond, map, ap, sym, subst, ◌∙◌}
use Rattle.std.specs.List.{AllByRecursion}
use Rattle.std.proofs.lemmas.Result.{IfOk-weaker}
use Rattle.im_syntax.specs.declared.item.ItemOf.{ItemOf}
use Rattle.im_syntax.specs.BoundQuery.{IsOfRow}
use Rattle.im_group.specs.declared.cell.Cell.{Cell}
use Rattle.im_group.specs.Tallies.{wanted}
use Rattle.im_group.specs.Answers.{row_cell, group_records}
use Rattle.im_group.specs.inner.Holding.{as_groups}
use Rattle.im_group.proofs.QueryLemmas.{rows-wanted}
use Rattle.im_group.proofs.partial.records_of.Goals as goal

pub row_records-requires : goal.row_records-requires
row_records-requires c =
    subst (AllByRecursion IsOfRow) (sym c.requires.wanted) (rows-wanted c.args.bound.now c.requires.query c.if-bound.false)

pub returns-else-bound : goal.returns-else-bound
returns-else-bound c =
    let bound = c.args.bound.now in
    let by_rows : List (ItemOf ℕ) → List (List Cell) = λ is. map (λ r. map (row_cell r.1) is) c.args.rows.now in
    let by_groups = group_records bound.groups (wanted bound) (as_groups c.args.groups.entries) in
    let plain = ap (λ b. cond b by_groups (by_rows (wanted bound))) c.if-bound.false in
    IfOk-weaker c.row_records.result _ _ (λ made h. h ∙ (ap by_rows c.requires.wanted ∙ sym plain)) c.row_records.ensures
