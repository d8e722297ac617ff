use Rattle.std.proofs.Common.{◌<◌, ◌++◌, List, Option, length, subst, arith}
use Rattle.std.proofs.lemmas.List.{take_all}
use Rattle.im_history.specs.Rows.{Row}
use Rattle.im_unit.specs.Holding.{present_rows}
use Rattle.im_unit.specs.inner.Planned.{Planned}
use Rattle.im_unit.proofs.PlanLemmas.{byte-is, byte-most, count-next, planned-push, slot-for, stands-first}
use Rattle.im_unit.proofs.planning.slots_before.Goals as goal

pub loop-place-preserved : goal.loop-place-preserved
loop-place-preserved c =
    let rows = c.args.old.now.rows in
    let place = c.loop-place.place in
    let inside : place < length rows = omega (arith, c.loop-place-test.true, c.len-place-end.ensures.len) in
    let there = c.is_present-is_present.ensures in
    let next = count-next rows place c.is_present-is_present.result inside there in
    record {
      planned = λ more.
          let from = present_rows rows ++ more in
          planned-push from c.loop-place.slots.items c.push.new.self.items rows place c.slot_of.result inside (c.loop-place.invariant.planned more)
          (slot-for from 0 rows place c.loop-place.count c.is_present-is_present.result c.slot_of.result (stands-first rows more) there
          (omega (arith, c.loop-place.invariant.count)) c.slot_of.ensures) c.in_ok-push.ensures.items;
      count = omega (arith, next, byte-is c.is_present-is_present.result, c.from-count.ensures, c.loop-place.invariant.count);
      few = omega (arith, byte-is c.is_present-is_present.result, c.from-count.ensures, c.loop-place.invariant.few, byte-most c.is_present-is_present.result);
    }

pub returns : goal.returns
returns c = λ more.
    let rows = c.args.old.now.rows in
    subst (λ (l : List (Option Row)). Planned (present_rows rows ++ more) c.loop-place.slots.items l)
    (take_all c.loop-place.place rows (omega (arith, c.loop-place-test.false, c.len-place-end.ensures.len))) (c.loop-place.invariant.planned more)
