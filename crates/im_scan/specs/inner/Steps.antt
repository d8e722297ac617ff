-- One step of the loops of a scan.
use Rattle.std.specs.Prelude.{◌≡◌, ℕ, ◌+◌, ◌-◌, ◌<◌, ◌≤◌, ◌==◌, nat_lt, List, [], ◌∷◌, ◌++◌, map, fold, slice_set, Option, Some, None, if◌then◌else◌}
use Rattle.std.specs.List.{AllByRecursion, range_with_len}
use Rattle.std.specs.Option.{ForSome}
use Rattle.im_history.specs.declared.change.Change.{Change}
use Rattle.im_history.specs.declared.view.View.{View}
use Rattle.im_history.specs.Last.{Slot, AreLast, change_of}
use Rattle.im_history.specs.Rows.{Row, row_after}
use Rattle.im_history.specs.Units.{Content}
use Rattle.im_history.specs.Views.{shown}
use Rattle.im_syntax.specs.declared.bound.Bound.{Bound}
use Rattle.im_group.specs.Partials.{Numbered, Parts, partial}
use Rattle.im_scan.specs.Parts.{MayAsk, MayAskShown, fetched_after, row_in_unit}
use Rattle.im_scan.specs.declared.faces.Face.{Face}
use Rattle.im_scan.specs.declared.faces.Face.TheVariants.{Whole, Edges, Bare}

-- a change whose row is as a view shows it
abbrev pub shown_change : View → Change → Change
shown_change view change = record change { row = shown view change.row }

-- a view whose own changes are as it shows them
abbrev pub as_shown : View → View
as_shown view = record view { own = map (shown_change view) view.own }

-- a unit, or none, has at each row number what another one has there, as a view shows it
pub record IsShownBy (view : View) (unit wide : Option Content) : Type 0 where
  pub at : (rid : ℕ) → row_in_unit wide rid ≡ shown view (row_in_unit unit rid)
  pub fits : (bound : Bound) → ForSome unit (λ content. AllByRecursion (MayAskShown bound view) content.rows) →
      ForSome wide (λ content. AllByRecursion (MayAsk bound) content.rows)

-- the row that stands at a row number: what was fetched of it, else what the unit has, and then changed by the view's own changes, in
-- order
abbrev pub laid_row : Option Content → List (ℕ × Option Row) → View → ℕ → Option Row
laid_row unit fetched view rid = fold (row_after view.table rid) (fold (fetched_after rid) (row_in_unit unit rid) fetched) view.own

-- what the last changes of a view's own left at so many row numbers from the first on was put behind other rows
pub record ArePutBehind (view : View) (first count : ℕ) (old new : List (ℕ × Option Row)) : Type 0 where
  pub own : List Slot
  pub last : AreLast view.own view.table first count own
  pub is : new ≡ old ++ own

-- rows are those that the unit of a face holds; where it shows none, nothing is read of them
abbrev pub AreRowsOf : Face → List (Option Row) → Type 0
AreRowsOf (Whole unit) rows = rows ≡ unit.now.rows
AreRowsOf (Edges edges) rows = Unit {0}
AreRowsOf Bare rows = Unit {0}

-- what a unit has at so many row numbers from the first on
abbrev pub unit_rows : Option Content → ℕ → ℕ → List (Option Row)
unit_rows unit first count = map (row_in_unit unit) (range_with_len first count)

-- rows from the first row number on, once a row is put at a row number, if it is one of theirs
abbrev pub put_at : ℕ → List (Option Row) → ℕ → Option Row → List (Option Row)
put_at first slots rid row = if nat_lt rid first then slots else slice_set slots (rid - first) row

-- once all that was fetched is put
abbrev pub with_fetched : ℕ → List (Option Row) → List (ℕ × Option Row) → List (Option Row)
with_fetched first slots fetched = fold (λ so_far row. put_at first so_far row.0 row.1) slots fetched

-- once a change to the table is put
abbrev pub with_change : ℕ → ℕ → List (Option Row) → Change → List (Option Row)
with_change table first slots change = if change.table == table then put_at first slots change.rid change.row else slots

-- once all changes to the table are put
abbrev pub with_changes : ℕ → ℕ → List (Option Row) → List Change → List (Option Row)
with_changes table first slots changes = fold (with_change table first) slots changes

-- the view changed none of so many row numbers from the first on
pub record IsUnchanged (view : View) (first count : ℕ) : Type 0 where
  pub none : (rid : ℕ) → first ≤ rid → rid < first + count → change_of view.own view.table rid ≡ None

-- what is gathered for a scan: what the unit has, then what was fetched, then the view's own changes
abbrev pub gathered : Option Content → List (ℕ × Option Row) → View → ℕ → ℕ → List (Option Row)
gathered unit fetched view first count =
    with_changes view.table first (with_fetched first (unit_rows unit first count) fetched) view.own

-- a row, where there is one, with its number
abbrev pub numbered : ℕ → Option Row → List Numbered
numbered rid None = []
numbered rid (Some row) = (rid, row) ∷ []

-- the rows that there are, each with its number, from the first row number on
abbrev pub numbered_from : ℕ → List (Option Row) → List Numbered
numbered_from first [] = []
numbered_from first (slot ∷ slots) = numbered first slot ++ numbered_from (first + 1) slots

-- the part of some rows goes on to the part of these and of those behind them
pub record GoesOnBy (bound : Bound) (old : Parts) (more : List Numbered) (new : Parts) : Type 0 where
  pub goes : (rows : List Numbered) → old ≡ partial bound rows → new ≡ partial bound (rows ++ more)

-- a query may be asked of what the unit has, of what was fetched and of what the own changes put
pub record MayScan (bound : Bound) (unit : Option Content) (fetched : List (ℕ × Option Row)) (own : List Change) : Type 0 where
  pub unit_fits : ForSome unit (λ content. AllByRecursion (MayAsk bound) content.rows)
  pub fetched_fits : AllByRecursion (λ f. MayAsk bound f.1) fetched
  pub own_fits : AllByRecursion (λ change. MayAsk bound change.row) own

-- the same of what the unit has and of what the own changes put as the view shows it
pub record MayScanShown (bound : Bound) (unit : Option Content) (fetched : List (ℕ × Option Row)) (view : View) : Type 0 where
  pub unit_fits : ForSome unit (λ content. AllByRecursion (MayAskShown bound view) content.rows)
  pub fetched_fits : AllByRecursion (λ f. MayAsk bound f.1) fetched
  pub own_fits : AllByRecursion (λ change. MayAskShown bound view change.row) view.own
