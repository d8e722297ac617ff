use Rattle.std.proofs.Common.{◌≡◌, take}
use Rattle.im_history.specs.Fetched.{all_widened, in_pieces}
use Rattle.im_history.proofs.shown.ShownRows.lent.Given as goal

-- the pieces so far are lent
abbrev pub invariant-loop-piece : goal.invariant-loop-piece
invariant-loop-piece l = l.rows.items ≡ all_widened l.defaults (in_pieces (take l.piece-index l.pieces))
