use Rattle.std.proofs.Common.{◌-◌, ◌≤◌, length, take}
use Rattle.im_history.specs.Fetched.{each_at}
use Rattle.im_scan.specs.inner.Pieces.{numbered_all}
use Rattle.im_scan.specs.inner.Steps.{GoesOnBy}
use Rattle.im_scan.proofs.in_place.hand_scattered.Given as goal

-- the part has taken the rows so far, of which those that are not chosen change nothing
abbrev pub invariant-loop-place : goal.invariant-loop-place
invariant-loop-place l = record {
  goes : GoesOnBy l.asking l.fn.part (numbered_all (each_at (take l.at l.rids) (take l.at l.rows))) l.part;
  within : l.at ≤ length l.rows;
}

abbrev pub decreases-loop-place : goal.decreases-loop-place
decreases-loop-place l = length l.rows - l.at
