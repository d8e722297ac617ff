use Rattle.std.proofs.Common.{◌≡◌, ◌≤◌, length, take, vec_len}
use Rattle.std.specs.Prelude.{vec_capacity}
use Rattle.im_unit.specs.Holding.{lent_slots, present_rows}
use Rattle.im_unit.specs.inner.Kept.{lent}
use Rattle.im_unit.proofs.building.rows_present.Given as goal

-- the rows that are present so far, and room for all that are left
abbrev pub invariant-loop-i : goal.invariant-loop-i
invariant-loop-i l = record {
  rows : lent l.present.items ≡ present_rows (take l.i (lent_slots l.rows));
  few : vec_len l.present ≤ l.i;
  room : vec_capacity l.present ≡ length l.rows;
}
