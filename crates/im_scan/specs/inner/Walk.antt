-- A walk over the row numbers of an extent: the rows of its unit that a condition keeps, and the rows beside it.
use Rattle.std.specs.Prelude.{◌≡◌, ℕ, ◌<◌, ◌≤◌, Bool, true, false, List, length, map, take, get_or, fold, is_some, Option, Some, None, if◌then◌else◌}
use Rattle.im_values.specs.declared.content.Content.{Content as Value}
use Rattle.im_syntax.specs.Condition.{CondOf}
use Rattle.im_syntax.specs.declared.bound.Bound.{Bound}
use Rattle.im_history.specs.Rows.{Row}
use Rattle.im_history.specs.Units.{Content}
use Rattle.im_group.specs.Partials.{Parts, keeps, partial}
use Rattle.im_unit.specs.Holding.{count_present}
use Rattle.im_scan.specs.Parts.{fetched_after, row_in_unit}
use Rattle.im_scan.specs.declared.kept.Kept.{Kept}

-- of a row, where there is one: whether a condition keeps it
abbrev pub is_kept : Option (CondOf ℕ Value) → Option Row → Bool
is_kept filter None = false
is_kept filter (Some row) = keeps filter row

-- no position from one on and below another is chosen
abbrev pub AreClear : List Bool → ℕ → ℕ → Type 0
AreClear mask from end = (k : ℕ) → from ≤ k → k < end → get_or mask k false ≡ false

-- the first chosen position from one on and below another
abbrev pub IsNext : List Bool → ℕ → ℕ → Option ℕ → Type 0
IsNext mask from end None = AreClear mask from end
IsNext mask from end (Some at) = (from ≤ at) × (at < end) × (get_or mask at false ≡ true) × AreClear mask from at

-- what was chosen of the rows that are present, by the places of all rows
pub record AreByPlace (rows : List (Option Row)) (spots places : List Bool) : Type 0 where
  pub long : length places ≡ length rows
  pub at : (k : ℕ) → k < length rows → get_or places k false ≡
      (if is_some (get_or rows k None) then get_or spots (count_present (take k rows)) false else false)

-- the unit that is gone over, if one is
abbrev pub unit_in : Option Kept → Option Content
unit_in None = None
unit_in (Some kept) = Some kept.unit.now

-- the places are those where a condition keeps the rows of the unit
abbrev pub AreKept : Option (CondOf ℕ Value) → Option Kept → Type 0
AreKept filter None = Unit {0}
AreKept filter (Some kept) = kept.places ≡ map (is_kept filter) kept.unit.now.rows

-- the unit does not begin behind a row number
abbrev pub BeginsBy : ℕ → Option Kept → Type 0
BeginsBy first None = Unit {0}
BeginsBy first (Some kept) = kept.unit.now.first ≤ first

-- what stands at a row number: the row beside the unit, if one is of this row number, and else the unit's
abbrev pub standing : Option Content → List (ℕ × Option Row) → ℕ → Option Row
standing unit beside rid = fold (fetched_after rid) (row_in_unit unit rid) beside

-- a part is that of rows of row numbers below this one
pub record IsPartTo (bound : Bound) (rid : ℕ) (part : Parts) : Type 0 where
  pub rows : List (ℕ × List Value)
  pub is : part ≡ partial bound rows
  pub few : length rows ≤ rid
