use Rattle.std.proofs.Common.{ℕ, ◌<◌}
use Rattle.im_codes.specs.Dictionary.{lent}
use Rattle.im_column.specs.inner.Sized.{Follows}
use Rattle.im_column.proofs.sizes.rise.Given as goal

abbrev pub invariant-loop-i : goal.invariant-loop-i
invariant-loop-i l = (k : ℕ) → k < l.i → Follows (lent l.values) k
