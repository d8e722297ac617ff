use Rattle.std.proofs.Common.{◌≡◌, drop}
use Rattle.im_index.specs.Excludes.{excludes_within}
use Rattle.im_index.proofs.pruning.within_excluded.Given as goal

abbrev pub invariant-loop-value : goal.invariant-loop-value
invariant-loop-value l = excludes_within l.bounds (drop l.value-index l.values) ≡ excludes_within l.bounds l.values
