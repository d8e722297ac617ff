use Rattle.std.proofs.Common.{◌≡◌, All, take}
use Rattle.std.specs.List.{flat_map}
use Rattle.im_history.proofs.FetchedLaws.{piece_widened}
use Rattle.im_scan.specs.inner.LentPieces.{HasLentNumbers, in_lent_pieces}
use Rattle.im_scan.proofs.pieces.lent_pieces.Given as goal

-- the pieces so far are lent
abbrev pub invariant-loop-piece : goal.invariant-loop-piece
invariant-loop-piece l = record {
  rows : in_lent_pieces l.pieces.items ≡ flat_map (piece_widened l.lying.defaults.now) (take l.piece-index l.lying.pieces.now);
  numbers : All HasLentNumbers l.pieces.items;
}
