-- What was fetched in pieces, taken as it is kept.
use Rattle.std.specs.Prelude.{◌≡◌, ℕ, ◌+◌, ◌<◌, ◌^◌, Bool, List, length, map, count_by, slice_get, Option, Some}
use Rattle.std.specs.List.{flat_map, range_with_len}
use Rattle.im_syntax.specs.declared.bound.Bound.{Bound}
use Rattle.im_history.specs.Rows.{Row}
use Rattle.im_history.specs.Fetched.{run_from}
use Rattle.im_group.specs.MadeGroups.{ComeTo}
use Rattle.im_group.specs.Partials.{GoesOn, Numbered, Parts, partial}
use Rattle.im_group.specs.Sums.{SumsOf}
use Rattle.im_scan.specs.inner.Steps.{numbered}
use Rattle.im_scan.specs.inner.Summed.{TakesTogether}

-- what was fetched is of all row numbers from the first on, in order
abbrev pub AreInOrder : ℕ → List (ℕ × Option Row) → Type 0
AreInOrder first fetched = map (λ f. f.0) fetched ≡ range_with_len first (length fetched)

-- the rows that were fetched, each with its number
abbrev pub numbered_all : List (ℕ × Option Row) → List Numbered
numbered_all fetched = flat_map (λ f. numbered f.0 f.1) fetched

-- a part is that of so few rows that so many more may come
pub record HasRoomFor (bound : Bound) (more : ℕ) (part : Parts) : Type 0 where
  pub rows : List Numbered
  pub is : part ≡ partial bound rows
  pub few : length rows + more < 2 ^ 64

-- a part takes the row at a place of a run, with this number
pub record TakesAt (bound : Bound) (rid : ℕ) (run : List Row) (at : ℕ) (old new : Parts) : Type 0 where
  pub row : Row
  pub there : slice_get run at ≡ Some row
  pub on : GoesOn bound old (rid, row) new

-- a query takes its rows together, and the chosen rows of a run come to these summaries
pub record AreOfRun (bound : Bound) (run : List Row) (mask : List Bool) (found : List SumsOf) : Type 0 where
  pub together : TakesTogether bound
  pub come : (first : ℕ) → ComeTo bound (numbered_all (run_from first run)) (count_by (λ chosen. chosen) mask) found
