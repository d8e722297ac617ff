use Rattle.std.proofs.Common.{◌≡◌, ◌++◌, map}
use Rattle.im_history.specs.Fetched.{all_widened, in_pieces}
use Rattle.im_history.proofs.shown.rows_in.Given as goal

-- the rows so far and those of the pieces that are left are all of them
abbrev pub invariant-loop-piece : goal.invariant-loop-piece
invariant-loop-piece l =
    l.rows.items ++ map (λ found. found.1) (all_widened l.defaults (in_pieces l.piece-iterator.rest.items))
    ≡ map (λ found. found.1) (all_widened l.defaults (in_pieces l.fn.pieces.items))
