use Rattle.std.proofs.Common.{◌≡◌, take}
use Rattle.im_history.specs.Weights.{changes_weight}
use Rattle.im_core.proofs.weights.weight_of.Given as goal

-- the changes so far are weighed
abbrev pub invariant-loop-place : goal.invariant-loop-place
invariant-loop-place l = l.sum ≡ changes_weight (take l.place l.changes)
