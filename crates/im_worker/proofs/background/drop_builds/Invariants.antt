use Rattle.std.proofs.Common.{length}
use Rattle.im_worker.specs.inner.Running.{IsDropping}
use Rattle.im_worker.proofs.background.drop_builds.Given as goal

abbrev pub invariant-loop-build : goal.invariant-loop-build
invariant-loop-build g l = IsDropping l.fn.who l.fn.held.items l.held.items (g.H.Reach.known l.fn.reach) (g.H.Reach.known l.reach)

abbrev pub decreases-loop-build : goal.decreases-loop-build
decreases-loop-build g l = length l.held.items
