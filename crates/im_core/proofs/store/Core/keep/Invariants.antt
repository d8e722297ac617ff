use Rattle.std.proofs.Common.{◌≡◌}
use Rattle.im_core.proofs.HorizonLemmas.{least_read}
use Rattle.im_core.proofs.store.Core.keep.Given as goal

-- the least so far is that of the sessions so far
abbrev pub invariant-loop-number : goal.invariant-loop-number
invariant-loop-number g l = l.least ≡ least_read l.self.log l.number
