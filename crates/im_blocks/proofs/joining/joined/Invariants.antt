use Rattle.std.proofs.Common.{◌≡◌, ◌≤◌, ◌-◌, length, take}
use Rattle.im_history.specs.Puts.{all_changes}
use Rattle.im_blocks.proofs.joining.joined.Given as goal

-- the changes of the pieces so far are there
abbrev pub invariant-loop-from : goal.invariant-loop-from
invariant-loop-from l = record { within : l.from ≤ length l.pieces; so_far : all_changes l.joined.items ≡ all_changes (take l.from l.pieces) }

abbrev pub decreases-loop-from : goal.decreases-loop-from
decreases-loop-from l = length l.pieces - l.from
