use Rattle.std.proofs.Common.{◌≡◌, ◌≤◌, length, take, vec_len}
use Rattle.std.specs.Prelude.{vec_capacity}
use Rattle.im_unit.specs.Holding.{present_rows}
use Rattle.im_unit.specs.Rebuilt.{fetched_rows}
use Rattle.im_unit.proofs.rebuilding.fresh_rows.Given as goal

-- the rows that are there so far, and room for all that are left
abbrev pub invariant-loop-i : goal.invariant-loop-i
invariant-loop-i l = record {
  rows : l.fresh.items ≡ present_rows (take l.i (fetched_rows l.fetched));
  few : vec_len l.fresh ≤ l.i;
  room : vec_capacity l.fresh ≡ length l.fetched;
}
