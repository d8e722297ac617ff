use Rattle.std.proofs.Common.{◌≡◌, take}
use Rattle.im_unit.specs.inner.Planned.{places_in}
use Rattle.im_unit.proofs.planning.places_of.Given as goal

-- the places of the slots so far
abbrev pub invariant-loop-i : goal.invariant-loop-i
invariant-loop-i l = l.places.items ≡ places_in (take l.i l.slots)
