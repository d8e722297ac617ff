use Rattle.std.proofs.Common.{◌≡◌, take}
use Rattle.im_group.specs.Partials.{partial}
use Rattle.im_scan.specs.inner.LentPieces.{in_lent_pieces}
use Rattle.im_scan.specs.inner.Pieces.{numbered_all}
use Rattle.im_scan.proofs.in_place.part_of_lent.Given as goal

-- the part of the pieces so far
abbrev pub invariant-loop-piece : goal.invariant-loop-piece
invariant-loop-piece l = l.part ≡ partial l.asking (numbered_all (in_lent_pieces (take l.piece-index l.pieces)))
