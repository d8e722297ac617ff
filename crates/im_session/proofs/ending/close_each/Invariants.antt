use Rattle.std.proofs.Common.{length}
use Rattle.im_session.specs.inner.Ends.{IsClosing}
use Rattle.im_session.proofs.ending.close_each.Given as goal

-- the cursors that are left are open, and the end goes on with them
abbrev pub invariant-loop-number : goal.invariant-loop-number
invariant-loop-number g l = IsClosing l.who l.fn.cursors.items (g.H.Reach.known l.fn.reach) l.cursors.items (g.H.Reach.known l.reach)

abbrev pub decreases-loop-number : goal.decreases-loop-number
decreases-loop-number g l = length l.cursors.items
