use Rattle.std.proofs.Common.{◌+◌, List, Option, length, take, subst, sym, arith}
use Rattle.im_history.specs.Rows.{Row}
use Rattle.im_unit.specs.Rebuilt.{fetched_rows, rows_with}
use Rattle.im_unit.specs.Holding.{present_rows}
use Rattle.im_unit.specs.inner.Planned.{Planned, stock}
use Rattle.im_unit.proofs.ForCallers.{count-present}
use Rattle.im_unit.proofs.PlanLemmas.{byte-is, byte-most, count-next, length-rows, planned-long, put-more, there-at}
use Rattle.im_unit.proofs.RebuiltLemmas.{length-with, rise-at, rise-few, with-none}
use Rattle.im_unit.proofs.planning.put_fetched.Goals as goal

pub loop-i-init : goal.loop-i-init
loop-i-init c =
    let old = c.args.old.now in
    let fetched = c.args.fetched.now in
    record {
      planned = subst (λ (l : List (Option Row)). Planned (stock old.rows fetched) c.args.slots.now.items l) (sym (with-none old.first old.rows))
          (c.requires.before (present_rows (fetched_rows fetched)));
      place = omega (arith, c.present-place.ensures.count, count-present old.rows);
      few = omega (arith, c.present-place.ensures.count, count-present old.rows);
    }

pub overflow_sub-rid : goal.overflow_sub-rid
overflow_sub-rid c =
    let old = c.args.old.now in
    let extent = rise-at old.first (old.first + length old.rows) c.args.fetched.now c.loop-i.i c.index-fetched-i.result c.requires.within c.loop-i-test.true
    c.index-fetched-i.is in
    omega (arith, extent.0, c.first-first.ensures)

pub index_mut-requires : goal.index_mut-requires
index_mut-requires c =
    let old = c.args.old.now in
    let fetched = c.args.fetched.now in
    let extent = rise-at old.first (old.first + length old.rows) c.args.fetched.now c.loop-i.i c.index-fetched-i.result c.requires.within c.loop-i-test.true
    c.index-fetched-i.is in
    let rows = rows_with (take c.loop-i.i fetched) old.first old.rows in
    let long = planned-long (stock old.rows fetched) c.loop-i.slots.items rows c.loop-i.invariant.planned in
    let same = length-with (take c.loop-i.i fetched) old.first old.rows in
    omega (arith, extent.0, extent.1, c.first-first.ensures, long, same, c.loop-i.slots.ok.0)

pub overflow_add-place : goal.overflow_add-place
overflow_add-place c =
    let old = c.args.old.now in
    let few = rise-few old.first (old.first + length old.rows) c.args.fetched.now c.requires.within (omega arith) in
    omega (
      arith,
      few,
      c.loop-i-test.true,
      c.loop-i.invariant.few,
      count-present old.rows,
      c.present-place.ensures.count,
      c.present-place.ensures.few,
      c.len-place.ensures.len,
      c.len-place.ensures.few,
      byte-is c.is_some-in-loop-i.result,
      c.from-place.ensures,
      byte-most c.is_some-in-loop-i.result,
    )

pub loop-i-preserved : goal.loop-i-preserved
loop-i-preserved c =
    let old = c.args.old.now in
    let fetched = c.args.fetched.now in
    let rows = fetched_rows fetched in
    let next = count-next rows c.loop-i.i c.is_some-in-loop-i.result (omega (arith, length-rows fetched, c.loop-i-test.true))
    (there-at fetched c.loop-i.i c.index-fetched-i.result c.is_some-in-loop-i.result c.loop-i-test.true c.index-fetched-i.is c.is_some-in-loop-i.ensures) in
    record {
      planned = rw c.first-first.ensures
          (put-more old.rows old.first fetched c.loop-i.i c.loop-i.place c.is_some.result c.slot_of.result c.loop-i.slots.items c.index-fetched-i.result
          c.loop-i-test.true c.index-fetched-i.is c.requires.within c.is_some.ensures c.loop-i.invariant.place c.slot_of.ensures
          c.loop-i.invariant.planned);
      place = omega (arith, next, byte-is c.is_some-in-loop-i.result, c.from-place.ensures, c.loop-i.invariant.place);
      few = omega (arith, byte-is c.is_some-in-loop-i.result, c.from-place.ensures, c.loop-i.invariant.few, byte-most c.is_some-in-loop-i.result);
    }
