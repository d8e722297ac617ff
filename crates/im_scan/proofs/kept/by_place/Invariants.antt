use Rattle.im_scan.proofs.KeptPlaces.{ArePlaced}
use Rattle.im_scan.proofs.kept.by_place.Given as goal

-- the places before this one are chosen
abbrev pub invariant-loop-place : goal.invariant-loop-place
invariant-loop-place l = ArePlaced l.unit.rows l.spots l.place l.spot l.places
