use Rattle.std.proofs.Common.{◌≡◌, ◌*◌, length, map, min}
use Rattle.std.specs.Arc.{arc_value}
use Rattle.im_unit.specs.inner.Kept.{rows_across}
use Rattle.im_unit.proofs.reading.rows_of.Given as goal

-- the rows of so many pieces
abbrev pub invariant-loop-i : goal.invariant-loop-i
invariant-loop-i l = record {
  rows : l.rows.items ≡ rows_across (map arc_value l.columns) (min (l.i * 64) l.count);
  many : length l.piece.items ≡ length l.columns;
}
