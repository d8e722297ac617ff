use Rattle.std.proofs.Common.{◌≡◌, ◌+◌, ◌++◌, map, take}
use Rattle.std.specs.Prelude.{vec_len, vec_capacity}
use Rattle.im_unit.specs.inner.Kept.{lent_values, row_across}
use Rattle.im_unit.proofs.reading.push_lent.Given as goal

-- the values that so many columns lend for the row
abbrev pub invariant-loop-i : goal.invariant-loop-i
invariant-loop-i l = record {
  items : l.values.items ≡ l.fn.values.items ++ row_across (map lent_values (take l.i l.piece.items)) l.k;
  len : vec_len l.values ≡ vec_len l.fn.values + l.i;
  capacity : vec_capacity l.values ≡ vec_capacity l.fn.values;
}
