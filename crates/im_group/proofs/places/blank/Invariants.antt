use Rattle.im_group.specs.inner.Places.{SaysNothing}
use Rattle.im_group.proofs.places.blank.Given as goal

abbrev pub invariant-loop : goal.invariant-loop
invariant-loop l = SaysNothing l.places.items
