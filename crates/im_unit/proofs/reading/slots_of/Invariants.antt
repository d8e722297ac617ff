use Rattle.std.proofs.Common.{◌≡◌, ◌*◌, ◌≤◌, length, map, min, Some}
use Rattle.std.specs.Prelude.{vec_len, vec_capacity}
use Rattle.std.specs.Arc.{arc_value}
use Rattle.im_unit.specs.inner.Kept.{rows_across}
use Rattle.im_unit.proofs.reading.slots_of.Given as goal

-- the rows of so many pieces, with room for all
abbrev pub invariant-loop-i : goal.invariant-loop-i
invariant-loop-i l = record {
  slots : l.slots.items ≡ map Some (rows_across (map arc_value l.columns) (min (l.i * 64) l.count));
  many : length l.piece.items ≡ length l.columns;
  len : vec_len l.slots ≡ min (l.i * 64) l.count;
  room : l.count ≤ vec_capacity l.slots;
}
