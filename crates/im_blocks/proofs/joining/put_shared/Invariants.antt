use Rattle.std.proofs.Common.{◌≡◌, ◌++◌, take}
use Rattle.im_history.specs.Puts.{all_changes}
use Rattle.im_blocks.proofs.joining.put_shared.Given as goal

-- the pieces so far are there
abbrev pub invariant-loop-piece : goal.invariant-loop-piece
invariant-loop-piece l = all_changes l.joined.items ≡ all_changes l.fn.joined.items ++ all_changes (take l.piece-index l.pieces)
