use Rattle.std.proofs.Common.{◌∙◌, arith}
use Rattle.im_scan.proofs.KeptPlaces.{few-present, placed-gap, placed-row, spot-inside}
use Rattle.im_scan.proofs.kept.by_place.Goals as goal
use Rattle.im_scan.proofs.kept.by_place.Goals.{then-is_present, else-is_present}

pub get-requires : goal.get-requires
get-requires c =
    let inside = spot-inside c.args.unit.now.rows c.args.spots.now c.loop-place.place c.loop-place.spot c.loop-place.places c.loop-place.invariant
    c.if-is_present.ensures in
    omega (arith, inside, c.requires)

pub overflow_add-spot : goal.overflow_add-spot
overflow_add-spot c =
    let inside = spot-inside c.args.unit.now.rows c.args.spots.now c.loop-place.place c.loop-place.spot c.loop-place.places c.loop-place.invariant
    c.if-is_present.ensures in
    omega (arith, inside, few-present c.args.unit.now.rows, c.len-len.ensures.len, c.len-len.ensures.few)

pub loop-place-preserved : goal.loop-place-preserved
loop-place-preserved c =
    let rows = c.args.unit.now.rows in
    let spots = c.args.spots.now in
    let place = c.loop-place.place in
    let spot = c.loop-place.spot in
    elim c.if-is_present.branch [
      | then-is_present w ↦ rw w.spot-is
          (placed-row rows spots place spot c.loop-place.places c.if-is_present.places w.get.result (omega (arith, c.loop-place-test.true, c.len-len.ensures.len))
          w.if-is_present.ensures w.get.ensures (w.places-is ∙ w.choose.ensures) c.loop-place.invariant)
      | else-is_present w ↦ rw (w.spot-is, w.places-is)
          (placed-gap rows spots place spot c.loop-place.places (omega (arith, c.loop-place-test.true, c.len-len.ensures.len)) w.if-is_present.ensures
          c.loop-place.invariant)
    ]
