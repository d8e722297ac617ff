use Rattle.std.proofs.Common.{◌≤◌, length, drop}
use Rattle.im_group.specs.inner.Places.{AreIn}
use Rattle.im_group.proofs.places.Places.of.Given as goal

-- the columns from here on stand where the table says
abbrev pub invariant-loop-at : goal.invariant-loop-at
invariant-loop-at l = AreIn (drop l.at l.columns) l.at l.places.items × (l.at ≤ length l.columns)

abbrev pub decreases-loop-at : goal.decreases-loop-at
decreases-loop-at l = l.at
