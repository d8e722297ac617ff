use Rattle.std.proofs.Common.{◌≡◌, take}
use Rattle.im_history.specs.Puts.{all_changes}
use Rattle.im_blocks.specs.inner.Joining.{IsWhole, changes_of}
use Rattle.im_blocks.proofs.joining.joint_of.Given as goal

-- the joint has the changes of the pieces so far
abbrev pub invariant-loop-piece : goal.invariant-loop-piece
invariant-loop-piece l = record { whole : IsWhole l.joint; so_far : changes_of l.joint ≡ all_changes (take l.piece-index l.pieces) }
