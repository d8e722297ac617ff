use Rattle.std.proofs.Common.{◌≡◌, length}
use Rattle.im_unit.proofs.reading.piece_for.Given as goal

abbrev pub invariant-loop-column : goal.invariant-loop-column
invariant-loop-column l = length l.piece.items ≡ l.column-index
