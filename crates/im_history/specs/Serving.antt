-- What serves a view in an extent: a column unit, and the rows that are fetched beside it.
use Rattle.std.specs.Prelude.{ℕ, ◌-◌, ◌*◌, min, nat_le, List, map, Option, Some, None, if◌then◌else◌}
use Rattle.std.specs.List.{range_with_len}
use Rattle.std.specs.Option.{option_map}
use Rattle.im_history.specs.declared.view.View.{View}
use Rattle.im_history.specs.History.{History}
use Rattle.im_history.specs.Rows.{Row, rows}
use Rattle.im_history.specs.Units.{Content, content_at, stale, unit}
use Rattle.im_history.specs.Views.{shown}

-- the SCN of a unit, unless it is newer than this one
abbrev pub not_newer : ℕ → Option ℕ → Option ℕ
not_newer scn None = None
not_newer scn (Some unit_scn) = if nat_le unit_scn scn then Some unit_scn else None

-- the SCN of the unit that serves a view in an extent: that of the current unit, unless it is newer than the view
abbrev pub serving : History → View → ℕ → Option ℕ
serving history view extent = not_newer view.scn (unit history view.table extent)

-- what the unit that serves a view in an extent holds
abbrev pub serving_content : History → View → ℕ → Option Content
serving_content history view extent = option_map (content_at history view.table extent) (serving history view extent)

-- how many row numbers of an extent a view has: all of them, but for the last extent perhaps
abbrev pub rows_in : View → ℕ → ℕ
rows_in view extent = min view.per (view.rows - extent * view.per)

-- these row numbers of a view's table, each with the row that was committed at the view's SCN
abbrev pub committed_among : History → View → List ℕ → List (ℕ × Option Row)
committed_among history view numbers = map (λ rid. (rid, rows history view.table view.scn rid)) numbers

-- the row numbers of an extent that a view has, each with the row that was committed at the view's SCN, in order
abbrev pub committed_in : History → View → ℕ → List (ℕ × Option Row)
committed_in history view extent = committed_among history view (range_with_len (extent * view.per) (rows_in view extent))

-- what is read of the versions beside the unit of this SCN: its stale rows, and without one all rows of the extent that
-- the view has
abbrev pub fetched_by : History → View → ℕ → Option ℕ → List (ℕ × Option Row)
fetched_by history view extent None = committed_in history view extent
fetched_by history view extent (Some unit_scn) =
    committed_among history view (stale history view.table extent unit_scn view.scn)

-- what a pin of an extent reads of the versions for a view, as it was committed
abbrev pub read_in : History → View → ℕ → List (ℕ × Option Row)
read_in history view extent = fetched_by history view extent (serving history view extent)

-- row numbers, each with its row as a view shows it
abbrev pub shown_all : View → List (ℕ × Option Row) → List (ℕ × Option Row)
shown_all view rows = map (λ row. (row.0, shown view row.1)) rows

-- what a pin of an extent fetches for a view: what it reads, as the view shows it
abbrev pub fetched_in : History → View → ℕ → List (ℕ × Option Row)
fetched_in history view extent = shown_all view (read_in history view extent)
