use Rattle.std.proofs.Common.{take}
use Rattle.std.specs.List.{flat_map}
use Rattle.im_history.proofs.FetchedLaws.{piece_widened}
use Rattle.im_scan.specs.inner.Pieces.{numbered_all}
use Rattle.im_scan.specs.inner.Steps.{GoesOnBy}
use Rattle.im_scan.proofs.in_place.take_pieces.Given as goal

-- the part has taken the pieces so far
abbrev pub invariant-loop-piece : goal.invariant-loop-piece
invariant-loop-piece l =
    GoesOnBy l.asking l.fn.part (numbered_all (flat_map (piece_widened l.lying.defaults.now) (take l.piece-index l.lying.pieces.now))) l.part
