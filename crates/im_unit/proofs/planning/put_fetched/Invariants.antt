use Rattle.std.proofs.Common.{◌≡◌, ◌≤◌, ◌+◌, length, take}
use Rattle.im_unit.specs.Holding.{count_present, present_rows}
use Rattle.im_unit.specs.Rebuilt.{fetched_rows, rows_with}
use Rattle.im_unit.specs.inner.Planned.{Planned, stock}
use Rattle.im_unit.proofs.planning.put_fetched.Given as goal

-- the places of the rows, those fetched so far in theirs, and the place of the next one
abbrev pub invariant-loop-i : goal.invariant-loop-i
invariant-loop-i l = record {
  planned : Planned (stock l.old.rows l.fetched) l.slots.items (rows_with (take l.i l.fetched) l.old.first l.old.rows);
  place : l.place ≡ length (present_rows l.old.rows) + count_present (take l.i (fetched_rows l.fetched));
  few : l.place ≤ length (present_rows l.old.rows) + l.i;
}
