-- What is left of a unit beside rows that stand in the place of some of its own.
use Rattle.std.specs.Prelude.{◌≡◌, ◌==◌, ℕ, zero, suc, ◌+◌, ◌<◌, ◌≤◌, nat_lt, Bool, false, List, [], ◌∷◌, fold, slice_set, Option, Some, None, if◌then◌else◌}
use Rattle.im_syntax.specs.declared.bound.Bound.{Bound}
use Rattle.im_history.specs.Rows.{Row}
use Rattle.im_history.specs.Units.{Content}
use Rattle.im_codepred.specs.Tallies.{chosen}
use Rattle.im_group.specs.MadeGroups.{kept_values}
use Rattle.im_group.specs.Partials.{Numbered, Parts, partial}
use Rattle.im_unit.specs.Holding.{present_rows, row_of, spot_of}
use Rattle.im_scan.specs.inner.Beside.{Beside}

-- the row numbers of these rows rise from one on and stay below another
abbrev pub AreBetween : ℕ → ℕ → Beside → Type 0
AreBetween from end [] = Unit {0}
AreBetween from end (row ∷ rows) = (from ≤ row.0) × (row.0 < end) × AreBetween (row.0 + 1) end rows

-- a row number is left to the unit: it is below an end, and no row beside the unit is of it
abbrev pub is_left : {X : Type 0} → ℕ → List (ℕ × X) → ℕ → Bool
is_left end beside rid = fold (λ left row. if row.0 == rid then false else left) (nat_lt rid end) beside

-- what a unit has at the row numbers that are left to it
abbrev pub left_at : Content → ℕ → Beside → ℕ → Option Row
left_at content end beside rid = if is_left end beside rid then row_of content rid else None

-- of each row that is present, the first of which may be of this row number: whether its row number is one of these and it meets a test
abbrev pub spots_where : (ℕ → Bool) → (Row → Bool) → ℕ → List (Option Row) → List Bool
spots_where shown test rid [] = []
spots_where shown test rid (None ∷ rows) = spots_where shown test (rid + 1) rows
spots_where shown test rid (Some row ∷ rows) = (if shown rid then test row else false) ∷ spots_where shown test (rid + 1) rows

-- a mask without a position, if there is one
abbrev pub without : Option ℕ → List Bool → List Bool
without None spots = spots
without (Some spot) spots = slice_set spots spot false

-- a mask without the positions of these row numbers
abbrev pub without_all : {X : Type 0} → Content → List (ℕ × X) → List Bool → List Bool
without_all content beside spots = fold (λ left row. without (spot_of content row.0) left) spots beside

-- a mask with so many of its first positions alone
abbrev pub cut_at : ℕ → List Bool → List Bool
cut_at n [] = []
cut_at zero (spot ∷ spots) = false ∷ cut_at zero spots
cut_at (suc n) (spot ∷ spots) = spot ∷ cut_at n spots

-- a part is that of any rows of which a query keeps those that are chosen of a unit
pub record IsPartOfChosen (bound : Bound) (content : Content) (spots : List Bool) (part : Parts) : Type 0 where
  pub gives : (rows : List Numbered) → kept_values bound rows ≡ chosen spots (present_rows content.rows) → part ≡ partial bound rows
