use Rattle.std.proofs.Common.{◌<◌, get_or, length, set, ap, ◌∙◌, arith}
use Rattle.std.proofs.lemmas.Option.{slice_get-get_or}
use Rattle.im_blocks.specs.declared.slot.Slot.{Slot}
use Rattle.im_blocks.specs.declared.slot.Slot.TheVariants.{Empty}
use Rattle.im_blocks.specs.inner.Puts.{entered}
use Rattle.im_blocks.proofs.EnterLemmas.{AreEntered-next}
use Rattle.im_blocks.proofs.Places.{got}
use Rattle.im_blocks.proofs.entering.enter_cells.Goals as goal

pub loop-rid-preserved : goal.loop-rid-preserved
loop-rid-preserved c =
    let from = c.loop-rid.auto.rid in
    let test = c.loop-rid-test.true in
    let count = c.count.ensures in
    let long = c.loop-rid.auto.cells in
    let room = c.requires.there in
    let within : c.loop-rid.rid < length c.loop-rid.cells = omega (arith, test, count, long, room) in
    let here = slice_get-get_or c.loop-rid.cells c.loop-rid.rid Empty within in
    AreEntered-next c.args.all_runs.now c.args.all_chains.now c.args.number c.args.run.now c.args.cells.now c.loop-rid.cells _ c.loop-rid.rid from
    within c.loop-rid.invariant
    (ap (λ (slot : Slot). set c.loop-rid.cells c.loop-rid.rid slot)
    (c.enter_one.ensures
    ∙ ap (entered c.args.all_runs.now c.args.all_chains.now c.args.number c.args.run.now c.args.run.now.table c.loop-rid.rid)
    (got c.loop-rid.cells c.loop-rid.rid (get_or c.loop-rid.cells c.loop-rid.rid Empty) c.index-cells-rid.result here)))
