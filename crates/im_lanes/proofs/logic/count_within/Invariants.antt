use Rattle.im_lanes.proofs.MaskLemmas.{CountsFrom}
use Rattle.im_lanes.proofs.logic.count_within.Given as goal

abbrev pub invariant-loop-place : goal.invariant-loop-place
invariant-loop-place l = CountsFrom l.mask l.from l.end l.place l.total
