use Rattle.std.proofs.Common.{◌≡◌, take}
use Rattle.im_history.specs.Weights.{row_weight}
use Rattle.im_core.proofs.weights.row_weight.Given as goal

-- the values so far are weighed
abbrev pub invariant-loop-value : goal.invariant-loop-value
invariant-loop-value l = l.sum ≡ row_weight (take l.value-index l.values)
