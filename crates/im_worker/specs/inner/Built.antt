-- What the unit of a build is made of, and what it holds then.
use Rattle.std.specs.Prelude.{◌≡◌, ℕ, ◌+◌, ◌-◌, ◌*◌, ◌++◌, List, length, map, Option, Some, None}
use Rattle.std.specs.List.{range_with_len}
use Rattle.im_history.specs.declared.task.Task.{Task}
use Rattle.im_history.specs.Rows.{Row}
use Rattle.im_history.specs.Units.{Content}
use Rattle.im_unit.specs.Holding.{AreShort, HaveWidth}
use Rattle.im_unit.specs.Rebuilt.{RiseWithin, fetched_rows, rebuilt}

-- so many row numbers without a row
unfoldable pub nones : ℕ → List (Option Row)
nones count = map (λ k. None) (range_with_len 0 count)

-- what a unit holds that is made of what was read for a build, there being no row at the row numbers behind that
abbrev pub content_from : Task → List (ℕ × Option Row) → Content
content_from task fetched = record {
  scn = task.scn;
  first = task.extent * task.per;
  columns = task.columns;
  rows = map (λ found. found.1) fetched ++ nones (task.per - length fetched);
}

-- what a unit holds that is made of what was read for a build: the unit that was lent with the fetched rows in their places, or without
-- one the fetched rows alone
abbrev pub content_built : Task → Option Content → List (ℕ × Option Row) → Content
content_built task None fetched = content_from task fetched
content_built task (Some old) fetched = rebuilt old task.scn fetched

-- a lent unit is of the build's columns, and what was fetched beside it is of row numbers of its own, rising
abbrev pub IsBeside : Task → Option Content → List (ℕ × Option Row) → Type 0
IsBeside task None fetched = Unit {0}
IsBeside task (Some old) fetched = (old.columns ≡ task.columns) × RiseWithin old.first (old.first + length old.rows) fetched

-- each row that was fetched for a build has a value for each of its columns, and none of these is a text that is too long
abbrev pub AreTaken : Task → List (ℕ × Option Row) → Type 0
AreTaken task fetched = HaveWidth task.columns (fetched_rows fetched) × AreShort (fetched_rows fetched)
