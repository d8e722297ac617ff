use Rattle.std.proofs.Common.{◌++◌, All}
use Rattle.im_scan.specs.inner.LentPieces.{HasLentNumbers, in_lent_pieces}
use Rattle.im_history.specs.Serving.{shown_all}
use Rattle.im_scan.specs.inner.Overlaid.{left_at}
use Rattle.im_scan.specs.inner.Steps.{as_shown}
use Rattle.im_scan.proofs.OverlaidLemmas.{IsLaid}
use Rattle.im_scan.proofs.overlaid.overlaid.Given as goal

-- the changes that are left, over the pieces so far and what is left of what was fetched
abbrev pub invariant-loop-rid : goal.invariant-loop-rid
invariant-loop-rid l = record {
  laid : IsLaid (in_lent_pieces l.fetched) (as_shown l.view) l.first (shown_all l.view l.rid-iterator) (in_lent_pieces l.pieces.items ++ left_at l.fetched l.spot);
  numbers : All HasLentNumbers l.pieces.items;
}
