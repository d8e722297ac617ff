use Rattle.std.proofs.Common.{◌≡◌, ◌-◌, ◌++◌, All, drop, length}
use Rattle.im_scan.specs.inner.LentPieces.{HasLentNumbers, in_lent_pieces}
use Rattle.im_scan.specs.inner.Overlaid.{left_at, left_of}
use Rattle.im_scan.proofs.overlaid.pass_below.Given as goal

-- what is put and what is left are as at first
abbrev pub invariant-loop-at : goal.invariant-loop-at
invariant-loop-at l = record {
  whole : in_lent_pieces l.pieces.items ++ left_of (drop l.at l.fetched) l.from ≡ in_lent_pieces l.fn.pieces.items ++ left_at l.fetched l.fn.spot;
  numbers : All HasLentNumbers l.pieces.items;
}

abbrev pub decreases-loop-at : goal.decreases-loop-at
decreases-loop-at l = length l.fetched - l.at
