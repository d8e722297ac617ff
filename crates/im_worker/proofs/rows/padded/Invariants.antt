use Rattle.std.proofs.Common.{◌≡◌, take}
use Rattle.im_history.specs.Fetched.{in_pieces}
use Rattle.im_unit.specs.Holding.{lent_slots}
use Rattle.im_unit.specs.Rebuilt.{fetched_rows}
use Rattle.im_worker.proofs.rows.padded.Given as goal

-- the rows of the pieces so far
abbrev pub invariant-loop-piece : goal.invariant-loop-piece
invariant-loop-piece l = lent_slots l.slots.items ≡ fetched_rows (in_pieces (take l.piece-index l.pieces))
