use Rattle.std.proofs.Common.{take, refl, ap, ◌∙◌, arith}
use Rattle.std.proofs.lemmas.List.{length-take-le}
use Rattle.im_group.specs.Partials.{partial}
use Rattle.im_scan.specs.inner.Steps.{numbered_from}
use Rattle.im_scan.proofs.SlotLemmas.{numbered-more}
use Rattle.im_scan.proofs.FitLemmas.{slot-fits}
use Rattle.im_scan.proofs.PartLemmas.{few-taken}
use Rattle.im_scan.proofs.parts.part_of_slots.Goals as goal

pub take_row-requires : goal.take_row-requires
take_row-requires c =
    let i = c.loop-i.i in
    let slots = c.args.slots.now in
    let long = length-take-le i slots (omega (arith, c.loop-i-test.true)) in
    record {
      fits = slot-fits c.args.asking.now slots i c.index-slots-i.result c.loop-i-test.true c.index-slots-i.is c.requires.fits;
      few =
          few-taken c.args.asking.now c.args.first i (take i slots) c.loop-i.part c.loop-i.invariant (omega (arith, long))
          (omega (arith, c.requires.within, c.loop-i-test.true));
    }

pub loop-i-preserved : goal.loop-i-preserved
loop-i-preserved c =
    let so_far = numbered_from c.args.first (take c.loop-i.i c.args.slots.now) in
    c.in_ok-take_row.ensures.goes so_far c.loop-i.invariant
    ∙ ap (partial c.args.asking.now)
    (numbered-more c.args.first c.args.slots.now c.loop-i.i c.index-slots-i.result so_far _ c.loop-i-test.true c.index-slots-i.is refl refl)
