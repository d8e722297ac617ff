-- What a build reads of its extent: the unit that is lent to it, where there is one, and the rows that are fetched beside that.
use Rattle.std.specs.Prelude.{◌≡◌, ℕ, ◌+◌, ◌-◌, ◌*◌, ◌==◌, ◌<◌, ◌≤◌, min, List, map, Option, Some, None, if◌then◌else◌}
use Rattle.std.specs.List.{range_with_len}
use Rattle.std.specs.Option.{option_map}
use Rattle.im_history.specs.declared.task.Held.{Held}
use Rattle.im_history.specs.declared.task.Task.{Task}
use Rattle.im_history.specs.History.{History}
use Rattle.im_history.specs.Rows.{Row, rows}
use Rattle.im_history.specs.Serving.{not_newer}
use Rattle.im_history.specs.Units.{Content, columns_at, content_at, held_at, stale, unit, unit_row}
use Rattle.im_history.specs.Views.{per_at}
use Rattle.im_core.specs.Pins.{row_given}

-- how many row numbers were given of a table when a held build of it began
abbrev pub given_of : Option Held → ℕ
given_of None = 0
given_of (Some held) = held.given

-- how many row numbers of a build's extent were given when it began
abbrev pub task_rows : History → Task → ℕ
task_rows history task = min task.per (given_of (held_at history task.id) - task.extent * task.per)

-- the SCN of a unit of a table, unless it has another number of columns than this
abbrev pub as_wide : History → ℕ → ℕ → Option ℕ → Option ℕ
as_wide history table columns None = None
as_wide history table columns (Some unit_scn) = if columns_at history table unit_scn == columns then Some unit_scn else None

-- the SCN of the unit that a build is lent: that of its extent's current unit, unless it is newer than the build or has fewer columns
abbrev pub task_serving : History → Task → Option ℕ
task_serving history task = as_wide history task.table task.columns (not_newer task.scn (unit history task.table task.extent))

-- what the unit that a build is lent holds
abbrev pub task_lent : History → Task → Option Content
task_lent history task = option_map (content_at history task.table task.extent) (task_serving history task)

-- these row numbers of a build's table, each with the row that was committed at the build's SCN, with the columns that the table had
-- there
abbrev pub task_among : History → Task → List ℕ → List (ℕ × Option Row)
task_among history task numbers = map (λ rid. (rid, unit_row history task.table task.scn rid)) numbers

-- these row numbers, each with the row as it was written
abbrev pub task_read_among : History → Task → List ℕ → List (ℕ × Option Row)
task_read_among history task numbers = map (λ rid. (rid, rows history task.table task.scn rid)) numbers

-- what a build reads of the versions beside the unit of this SCN: its stale rows, and without one all rows of the extent that were
-- given when the build began; in order
abbrev pub task_read_by : History → Task → Option ℕ → List (ℕ × Option Row)
task_read_by history task None = task_read_among history task (range_with_len (task.extent * task.per) (task_rows history task))
task_read_by history task (Some at) = task_read_among history task (stale history task.table task.extent at task.scn)

-- what a build reads of the versions, the rows as they were written
abbrev pub task_read : History → Task → List (ℕ × Option Row)
task_read history task = task_read_by history task (task_serving history task)

-- what it fetches: the same, with the columns that its table had at the build's SCN
abbrev pub task_fetched_by : History → Task → Option ℕ → List (ℕ × Option Row)
task_fetched_by history task None = task_among history task (range_with_len (task.extent * task.per) (task_rows history task))
task_fetched_by history task (Some at) = task_among history task (stale history task.table task.extent at task.scn)

-- what a build reads of the versions
abbrev pub task_fetched : History → Task → List (ℕ × Option Row)
task_fetched history task = task_fetched_by history task (task_serving history task)

-- ---- the law

-- a unit that is lent to a build, which has the columns that its table had at its SCN, has at each row number of the extent the row
-- that the build's unit is to hold, once the rows that are fetched are in their places
abbrev pub MendsTheLentUnit : Type 0
MendsTheLentUnit =
    (history : History) (task : Task) (at : ℕ) → task.columns ≡ columns_at history task.table task.scn → task_serving history task ≡ Some at
    → (rid : ℕ) → task.extent * per_at history task.table ≤ rid → rid < (task.extent + 1) * per_at history task.table
    → row_given (record { unit = task_lent history task; fetched = task_fetched history task }) rid ≡ unit_row history task.table task.scn rid
