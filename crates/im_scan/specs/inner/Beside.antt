-- What stands beside a unit: what was fetched, and over it what a view's own changes left.
use Rattle.std.specs.Prelude.{◌≡◌, ℕ, ◌+◌, ◌<◌, ◌≤◌, ◌++◌, List, [], ◌∷◌, ◌⊎◌, length, drop, get_or, map, fold, Option, None}
use Rattle.std.specs.List.{AllByRecursion}
use Rattle.im_history.specs.declared.change.Change.{Change}
use Rattle.im_history.specs.declared.view.View.{View}
use Rattle.im_history.specs.Rows.{Row, row_after}
use Rattle.im_scan.specs.Parts.{fetched_after}

-- rows, or none, each with its row number
abbrev pub Beside : Type 0
Beside = List (ℕ × Option Row)

-- the row numbers rise
abbrev pub IsRising : Beside → Type 0
IsRising [] = Unit {0}
IsRising (row ∷ rows) = AllByRecursion (λ other. row.0 < other.0) rows × IsRising rows

-- one of these rows
abbrev pub IsIn : Option Row → List (Option Row) → Type 0
IsIn row [] = ⊥
IsIn row (other ∷ rows) = (other ≡ row) ⊎ IsIn row rows

-- a row that was fetched, or that one of these changes put
abbrev pub ComesOf : Beside → List Change → Option Row → Type 0
ComesOf fetched own row = IsIn row (map (λ f. f.1) fetched) ⊎ IsIn row (map (λ change. change.row) own)

-- these rows say at each of so many row numbers from the first on what was fetched and then the own changes say
pub record AreBeside (fetched : Beside) (view : View) (first count : ℕ) (rows : Beside) : Type 0 where
  pub at : (rid : ℕ) → first ≤ rid → rid < first + count → (row : Option Row) →
      fold (fetched_after rid) row rows ≡ fold (row_after view.table rid) (fold (fetched_after rid) row fetched) view.own
  pub comes : AllByRecursion (λ row. ComesOf fetched view.own row.1) rows

-- what was fetched from one place on was put behind others, up to the first of it that is not below a row number
pub record IsPassed (fetched : Beside) (from next rid : ℕ) (old new : Beside) : Type 0 where
  pub within : next ≤ length fetched
  pub whole : new ++ drop next fetched ≡ old ++ drop from fetched
  pub past : next < length fetched → rid ≤ (get_or fetched next (0, None)).0

-- the place behind one of this row number, and else the same place
pub record SkipsEqual (fetched : Beside) (at rid next : ℕ) : Type 0 where
  pub within : next ≤ length fetched
  pub skips : ((next ≡ at + 1) × (at < length fetched) × ((get_or fetched at (0, None)).0 ≡ rid)) ⊎
      ((next ≡ at) × (at < length fetched → (get_or fetched at (0, None)).0 ≡ rid → ⊥))
