-- The part of a query's answer that one extent gives.
use Rattle.std.specs.Prelude.{◌≡◌, ℕ, ◌*◌, ◌==◌, List, length, fold, Option, Some, None, if◌then◌else◌}
use Rattle.std.specs.List.{All}
use Rattle.std.specs.Option.{ForSome}
use Rattle.im_syntax.specs.declared.bound.Bound.{Bound}
use Rattle.im_syntax.specs.BoundFits.{BoundFits}
use Rattle.im_history.specs.declared.view.View.{View}
use Rattle.im_history.specs.Rows.{Row, row_after, present}
use Rattle.im_history.specs.Units.{Content}
use Rattle.im_history.specs.Serving.{rows_in, shown_all}
use Rattle.im_history.specs.Views.{shown}
use Rattle.im_column.specs.Forms.{IsShort}
use Rattle.im_group.specs.Partials.{Numbered, Parts, partial}
use Rattle.im_unit.specs.Holding.{row_of}

-- the row that a unit has at a row number; without a unit there is none
abbrev pub row_in_unit : Option Content → ℕ → Option Row
row_in_unit None rid = None
row_in_unit (Some content) rid = row_of content rid

-- what stands at a row number once a row was fetched: what was fetched, if it is of this row number
abbrev pub fetched_after : ℕ → Option Row → ℕ × Option Row → Option Row
fetched_after rid row fetched = if fetched.0 == rid then fetched.1 else row

-- the row that a scan takes at a row number: what was fetched of it, else what the unit has, and then changed by the view's
-- own changes, in order; as the view shows it
abbrev pub taken_row : Option Content → List (ℕ × Option Row) → View → ℕ → Option Row
taken_row unit fetched view rid =
    shown view (fold (row_after view.table rid) (fold (fetched_after rid) (row_in_unit unit rid) fetched) view.own)

-- the rows that a scan takes of an extent: those at the row numbers of the extent that the view has
abbrev pub taken_rows : Option Content → List (ℕ × Option Row) → View → ℕ → List Numbered
taken_rows unit fetched view extent = present (taken_row unit fetched view) (extent * view.per) (rows_in view extent)

-- what they give to a query
abbrev pub part_of : Option Content → List (ℕ × Option Row) → View → ℕ → Bound → Parts
part_of unit fetched view extent bound = partial bound (taken_rows unit fetched view extent)

-- a query may be asked of a row, where there is one
abbrev pub MayAsk : Bound → Option Row → Type 0
MayAsk bound row = ForSome row (λ values. BoundFits values bound)

-- the same of a row as a view shows it
abbrev pub MayAskShown : Bound → View → Option Row → Type 0
MayAskShown bound view row = MayAsk bound (shown view row)

-- what was fetched is as a view shows it
abbrev pub AreShown : View → List (ℕ × Option Row) → Type 0
AreShown view fetched = shown_all view fetched ≡ fetched

-- a view has a default for each of its columns, and none is a text that is too long
pub record AreDefaults (view : View) : Type 0 where
  pub each : length view.defaults ≡ length view.columns
  pub short : All IsShort view.defaults
