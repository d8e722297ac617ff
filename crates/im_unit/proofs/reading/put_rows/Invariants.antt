use Rattle.std.proofs.Common.{◌≡◌, ◌+◌, ◌++◌, Some, map}
use Rattle.std.specs.Prelude.{vec_len, vec_capacity}
use Rattle.std.specs.Vec.Iter.{into_iter_items, into_iter_len}
use Rattle.im_unit.proofs.reading.put_rows.Given as goal

-- the rows that are left come behind those that were put, and have room
abbrev pub invariant-loop-row : goal.invariant-loop-row
invariant-loop-row l = record {
  items : l.slots.items ++ map Some (into_iter_items l.row-iterator) ≡ l.fn.slots.items ++ map Some l.fn.rows.items;
  len : vec_len l.slots + into_iter_len l.row-iterator ≡ vec_len l.fn.slots + vec_len l.fn.rows;
  capacity : vec_capacity l.slots ≡ vec_capacity l.fn.slots;
}
