use Rattle.std.proofs.Common.{◌≡◌, ◌++◌, List, Vec, Global, length, map, sym, ap, subst, ◌∙◌}
use Rattle.im_values.specs.declared.content.Content.{Content as Value}
use Rattle.im_group.specs.declared.cell.Cell.{Cell}
use Rattle.im_group.specs.Tallies.{Tallied}
use Rattle.im_group.specs.Answers.{group_cell}
use Rattle.im_group.specs.inner.Holding.{AreKeyed}
use Rattle.im_group.proofs.GroupCells.{map_next}
use Rattle.im_group.proofs.partial.put_records.Goals as goal

pub loop-key-preserved : goal.loop-key-preserved
loop-key-preserved c =
    let cells : Vec Value Global × Tallied → List Cell =
    λ g. map (group_cell c.args.bound.now.groups c.args.asked.now g.0.items g.1) c.args.wanted.now in
    let made : c.in_ok-group_record.field-0 ≡ cells (c.in-Some.key, c.in-Some.tallies) =
    c.in_ok-group_record.ensures
    ∙ (λ i. map (group_cell (c.items-columns.ensures i) c.args.asked.now (c.as_slice.ensures.value i) c.in-Some.tallies) c.args.wanted.now) in
    let whole = ap (λ es. c.loop-key.records.items ++ map cells es) (sym c.in-Some.ensures.steps) ∙ c.loop-key.invariant.0 in (
      ap (λ out. out ++ map cells c.next.new.self) c.in_ok-push.ensures.items
          ∙ map_next cells c.loop-key.records.items c.in_ok-group_record.field-0 (c.in-Some.key, c.in-Some.tallies) c.next.new.self _ made whole,
      (subst (AreKeyed (length c.args.bound.now.groups)) c.in-Some.ensures.steps c.loop-key.invariant.1).1,
    )
