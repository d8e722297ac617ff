use Rattle.std.proofs.Common.{◌<◌, All, take}
use Rattle.check_parts.proofs.codes.are_before.Given as goal

abbrev pub invariant-loop-place : goal.invariant-loop-place
invariant-loop-place l = All (λ place. place < l.end) (take l.place-index l.places)
