-- Column units, as a history tells of them: the builds that are held, the units that are current, and their stale rows.
use Rattle.std.specs.Prelude.{◌≡◌, ℕ, ◌+◌, ◌*◌, ◌==◌, ◌&&◌, ◌||◌, Bool, false, not, nat_le, nat_lt, List, [], ◌∷◌, ◌++◌, length, map, filter, Option, Some, None, if◌then◌else◌}
use Rattle.std.specs.List.{find, range_with_len}
use Rattle.std.specs.Option.{option_map}
use Rattle.im_history.specs.declared.entry.What.{What}
use Rattle.im_history.specs.declared.entry.What.TheVariants.{Memory, Commit, Build, Switch, Cancel, Evict}
use Rattle.im_history.specs.declared.task.Held.{Held}
use Rattle.im_history.specs.declared.task.Task.{Task}
use Rattle.im_history.specs.declared.view.Opening.{Opening}
use Rattle.im_values.specs.Widened.{widened}
pub use Rattle.im_history.specs.Columns.{columns_of, columns_at}
use Rattle.im_history.specs.Columns.{defaults_at}
use Rattle.im_history.specs.Commits.{scn}
use Rattle.im_history.specs.History.{History, replay}
use Rattle.im_history.specs.Rows.{Row, rows}
use Rattle.im_history.specs.Tables.{table_at, given}
use Rattle.im_history.specs.Touched.{touches}
use Rattle.im_history.specs.Transactions.{or_here, pending}
use Rattle.im_history.specs.Views.{per_at}

-- ---- builds

-- a table that is to be opened, with the columns that it has after this history
abbrev pub opening_at : History → ℕ → Opening
opening_at history table = record { table = table; columns = columns_of (table_at history table) }

-- a build of this number that begins after this history: its unit has the SCN that stands there
abbrev pub task_at : History → ℕ → ℕ → ℕ → Bool → Task
task_at history id table extent trickle = record {
  id = id;
  table = table;
  extent = extent;
  scn = scn history;
  per = per_at history table;
  columns = columns_of (table_at history table);
  trickle = trickle;
}

-- the held build is of this number
abbrev pub is_id : ℕ → Held → Bool
is_id id held = held.task.id == id

-- it is of this extent
abbrev pub is_on : ℕ → ℕ → Held → Bool
is_on table extent held = (held.task.table == table) && (held.task.extent == extent)

-- the entry takes the extent out of the column store: by itself, or with its whole table
abbrev pub drops : ℕ → ℕ → What → Bool
drops table extent (Evict other place) = (other == table) && (place == extent)
drops table extent (Memory other None) = other == table
drops table extent what = false

-- a held build after an entry at this place, which kills it where it takes its extent out
abbrev pub killed_by : ℕ → What → Held → Held
killed_by place what held =
    if drops held.task.table held.task.extent what then record held { killed = or_here place held.killed } else held

-- the held builds after one more entry
abbrev pub held_after : History → ℕ → List Held → What → List Held
held_after before who so_far (Build id table extent trickle) =
    so_far ++ record { who = who; task = task_at before id table extent trickle; given = given before table; killed = None } ∷ []
held_after before who so_far (Switch id) = filter (λ held. not (is_id id held)) so_far
held_after before who so_far (Cancel id full) = filter (λ held. not (is_id id held)) so_far
held_after before who so_far what = map (killed_by (length before) what) so_far

-- the builds that began and did not end, in the order in which they began
unfoldable pub held : History → List Held
held history = replay (λ before so_far entry. held_after before entry.who so_far entry.what) [] history

-- the held build of this number
abbrev pub held_at : History → ℕ → Option Held
held_at history id = find (is_id id) (held history)

-- the place of the entry that killed a held build
abbrev pub killed_of : Option Held → Option ℕ
killed_of None = None
killed_of (Some held) = held.killed

-- an extent's living build, unless it is the build of this number, which ends
abbrev pub unless_ended : ℕ → Option ℕ → Option ℕ
unless_ended id None = None
unless_ended id (Some other) = if other == id then None else Some other

-- the number of an extent's living build after one more entry
abbrev pub living_after : ℕ → ℕ → Option ℕ → What → Option ℕ
living_after table extent so_far (Build id other place trickle) = if (other == table) && (place == extent) then Some id else so_far
living_after table extent so_far (Switch id) = unless_ended id so_far
living_after table extent so_far (Cancel id full) = unless_ended id so_far
living_after table extent so_far what = if drops table extent what then None else so_far

-- the number of an extent's living build: the last one that began, unless it ended or was killed since
unfoldable pub living : History → ℕ → ℕ → Option ℕ
living history table extent = replay (λ before so_far entry. living_after table extent so_far entry.what) None history

-- how many builds began, one more entry counted
abbrev pub builds_after : ℕ → What → ℕ
builds_after so_far (Build id table extent trickle) = so_far + 1
builds_after so_far what = so_far

-- how many builds began: the next one has one number more
unfoldable pub builds : History → ℕ
builds history = replay (λ before so_far entry. builds_after so_far entry.what) 0 history

-- ---- units

-- the SCN of the extent's unit after a switch of this build: its own where it is a build of the extent
abbrev pub switched : ℕ → ℕ → Option ℕ → Option Held → Option ℕ
switched table extent so_far None = so_far
switched table extent so_far (Some held) = if is_on table extent held then Some held.task.scn else so_far

-- the SCN of the extent's unit after one more entry
abbrev pub unit_after : ℕ → ℕ → History → Option ℕ → What → Option ℕ
unit_after table extent before so_far (Switch id) = switched table extent so_far (held_at before id)
unit_after table extent before so_far what = if drops table extent what then None else so_far

-- the SCN of the extent's current unit: that of its last build that was switched in, unless an entry behind it took the
-- extent out of the column store
unfoldable pub unit : History → ℕ → ℕ → Option ℕ
unit history table extent = replay (λ before so_far entry. unit_after table extent before so_far entry.what) None history

-- ---- stale rows

-- whether a commit behind the SCN `after` and up to the SCN `to` touched a row, one more entry counted
abbrev pub touched_between_after : ℕ → ℕ → ℕ → ℕ → History → Bool → ℕ → What → Bool
touched_between_after table rid after to before so_far who Commit =
    so_far || ((nat_le after (scn before) && nat_lt (scn before) to) && touches (pending before who) table rid)
touched_between_after table rid after to before so_far who what = so_far

-- a commit behind the SCN `after` and up to the SCN `to` touched the row
unfoldable pub touched_between : History → ℕ → ℕ → ℕ → ℕ → Bool
touched_between history after to table rid =
    replay (λ before so_far entry. touched_between_after table rid after to before so_far entry.who entry.what) false history

-- the row numbers of an extent
abbrev pub rows_of_extent : ℕ → ℕ → List ℕ
rows_of_extent per extent = range_with_len (extent * per) per

-- the row numbers of an extent that commits behind a unit's SCN and up to this one touched, rising: there a scan reads the
-- blocks
abbrev pub stale : History → ℕ → ℕ → ℕ → ℕ → List ℕ
stale history table extent unit_scn to =
    filter (touched_between history unit_scn to table) (rows_of_extent (per_at history table) extent)

-- ---- what a unit holds

-- what a column unit says that it holds: the rows of an extent that were committed by an SCN, from a first row number on, where
-- there is one
pub record Content : Type 0 where
  pub scn : ℕ
  pub first : ℕ
  pub columns : ℕ
  pub rows : List (Option Row)

-- the row that a unit of a table at an SCN holds at a row number: as it was committed, with the defaults of the columns that the
-- table had got since
abbrev pub unit_row : History → ℕ → ℕ → ℕ → Option Row
unit_row history table unit_scn rid = option_map (widened (defaults_at history table unit_scn)) (rows history table unit_scn rid)

-- what the unit of an extent at an SCN holds
abbrev pub content_at : History → ℕ → ℕ → ℕ → Content
content_at history table extent unit_scn = record {
  scn = unit_scn;
  first = extent * per_at history table;
  columns = columns_at history table unit_scn;
  rows = map (unit_row history table unit_scn) (rows_of_extent (per_at history table) extent);
}

-- what the current unit of an extent holds
abbrev pub unit_content : History → ℕ → ℕ → Option Content
unit_content history table extent = option_map (content_at history table extent) (unit history table extent)

-- what the unit of a build is to hold
abbrev pub task_content : History → Task → Content
task_content history task = record {
  scn = task.scn;
  first = task.extent * task.per;
  columns = task.columns;
  rows = map (unit_row history task.table task.scn) (rows_of_extent task.per task.extent);
}

-- a held build is a session's or worker's own: it began this very build
pub record IsOwn (history : History) (who : ℕ) (task : Task) : Type 0 where
  pub held : Held
  pub is : held_at history task.id ≡ Some held
  pub mine : held.who ≡ who
  pub same : held.task ≡ task
