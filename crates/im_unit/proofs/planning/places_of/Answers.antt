use Rattle.im_unit.proofs.PlanLemmas.{places-more}
use Rattle.im_unit.proofs.planning.places_of.Goals as goal

pub loop-i-preserved : goal.loop-i-preserved
loop-i-preserved c =
    places-more c.args.slots.now c.loop-i.i c.loop-i.places.items c.put_place.new.places.items c.loop-i-test.true c.loop-i.invariant
    c.in_ok-put_place.ensures
