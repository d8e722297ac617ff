use Rattle.std.proofs.Common.{take}
use Rattle.im_history.specs.Fetched.{in_pieces}
use Rattle.im_scan.proofs.PieceLemmas.{IsNextTo}
use Rattle.im_scan.proofs.in_place.are_in_order.Given as goal

-- the pieces so far are in order
abbrev pub invariant-loop-piece : goal.invariant-loop-piece
invariant-loop-piece l = IsNextTo l.first (in_pieces (take l.piece-index l.lying.pieces.now)) l.next
