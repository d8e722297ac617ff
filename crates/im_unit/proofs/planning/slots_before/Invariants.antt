use Rattle.std.proofs.Common.{◌≡◌, ◌≤◌, ◌++◌, List, take}
use Rattle.im_history.specs.Rows.{Row}
use Rattle.im_unit.specs.Holding.{count_present, present_rows}
use Rattle.im_unit.specs.inner.Planned.{Planned}
use Rattle.im_unit.proofs.planning.slots_before.Given as goal

-- the places of the rows so far, and how many of them are present
abbrev pub invariant-loop-place : goal.invariant-loop-place
invariant-loop-place l = record {
  planned : (more : List Row) → Planned (present_rows l.old.rows ++ more) l.slots.items (take l.place l.old.rows);
  count : l.count ≡ count_present (take l.place l.old.rows);
  few : l.count ≤ l.place;
}
