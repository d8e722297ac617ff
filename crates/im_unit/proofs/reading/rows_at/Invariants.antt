use Rattle.std.proofs.Common.{◌≡◌, ◌*◌, ◌≤◌, map}
use Rattle.std.specs.Prelude.{vec_len, vec_capacity}
use Rattle.im_values.specs.Stretches.{cut}
use Rattle.im_unit.specs.inner.Kept.{lent_values, rows_across}
use Rattle.im_unit.proofs.reading.rows_at.Given as goal

-- the values so far are those of so many rows
abbrev pub invariant-loop-k : goal.invariant-loop-k
invariant-loop-k l = record {
  rows : cut l.k l.width l.values.items ≡ rows_across (map lent_values l.piece.items) l.k;
  many : vec_len l.values ≡ l.k * l.width;
  room : l.count * l.width ≤ vec_capacity l.values;
}
