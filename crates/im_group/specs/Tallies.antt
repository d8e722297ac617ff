-- What a group has taken of its rows: how many there are, and one summary for each column that the query aggregates.
use Rattle.std.specs.Prelude.{ℕ, ◌+◌, ◌<◌, ◌^◌, ◌==◌, Bool, false, ◌&&◌, List, [], ◌∷◌, ◌++◌, length, map, fold, get_or, if◌then◌else◌}
use Rattle.std.specs.List.{AllByRecursion, list_any}
use Rattle.im_values.specs.declared.content.Content.{Content as Value}
use Rattle.im_syntax.specs.declared.bound.Bound.{Bound}
use Rattle.im_syntax.specs.declared.item.ItemOf.{ItemOf}
use Rattle.im_syntax.specs.declared.item.ItemOf.TheVariants as item
use Rattle.im_syntax.specs.BoundFits.{value_at}
use Rattle.im_syntax.specs.BoundQuery.{is_listed}
use Rattle.im_group.specs.declared.asked.Asked.{Asked}
use Rattle.im_group.specs.declared.asked.End.{End}
use Rattle.im_group.specs.declared.asked.End.TheVariants as end
use Rattle.im_group.specs.Sums.{SumsOf, column_of, sums_of, no_sums, reads, taken, joined}

-- ---- what is asked of a group

-- the items that a query takes of each group: those of its list, then those of its keys
abbrev pub wanted : Bound → List (ItemOf ℕ)
wanted bound = bound.items ++ map (λ key. key.item) bound.keys

-- the columns that aggregates go over, each once
abbrev pub with_column : List ℕ → ItemOf ℕ → List ℕ
with_column columns (item.Column column) = columns
with_column columns item.CountAll = columns
with_column columns (item.Aggregate function column) = if is_listed columns column then columns else columns ++ column ∷ []

-- an item reads an end of the values of this column
abbrev pub asks : End → ℕ → ItemOf ℕ → Bool
asks end column (item.Column other) = false
asks end column item.CountAll = false
asks end column (item.Aggregate function other) = reads end function && other == column

-- what is asked of a column
abbrev pub asked_of : List (ItemOf ℕ) → ℕ → Asked
asked_of items column = record {
  column = column;
  least = list_any (asks end.Least column) items;
  greatest = list_any (asks end.Greatest column) items;
}

-- what a query asks of the columns of each group
unfoldable pub asked_in : List (ItemOf ℕ) → List Asked
asked_in items = map (asked_of items) (fold with_column [] items)

-- ---- what a group has

pub record Tallied : Type 0 where
  pub rows : ℕ
  pub sums : List SumsOf

-- what a group of these rows has
abbrev pub tallied : List Asked → List (List Value) → Tallied
tallied asked rows = record { rows = length rows; sums = map (λ a. sums_of a (column_of a.column rows)) asked }

-- ---- one row more

abbrev pub each_taken : List Asked → List SumsOf → List Value → List SumsOf
each_taken [] ss row = ss
each_taken (a ∷ qs) [] row = []
each_taken (a ∷ qs) (s ∷ ss) row = taken a s (value_at row a.column) ∷ each_taken qs ss row

abbrev pub row_taken : List Asked → Tallied → List Value → Tallied
row_taken asked t row = record { rows = t.rows + 1; sums = each_taken asked t.sums row }

-- the counts stay below 2^64 with one row more
pub record HasRoom (t : Tallied) : Type 0 where
  pub rows : t.rows + 1 < 2 ^ 64
  pub sums : AllByRecursion (λ s. s.values + 1 < 2 ^ 64) t.sums

-- ---- two parts of one group

abbrev pub each_joined : List SumsOf → List SumsOf → List SumsOf
each_joined [] us = []
each_joined (t ∷ ts) [] = t ∷ ts
each_joined (t ∷ ts) (u ∷ us) = joined t u ∷ each_joined ts us

abbrev pub all_joined : Tallied → Tallied → Tallied
all_joined t u = record { rows = t.rows + u.rows; sums = each_joined t.sums u.sums }

-- the counts of two parts stay below 2^64
abbrev pub CanJoinEach : List SumsOf → List SumsOf → Type 0
CanJoinEach [] us = Unit {0}
CanJoinEach (t ∷ ts) [] = Unit {0}
CanJoinEach (t ∷ ts) (u ∷ us) = (t.values + u.values < 2 ^ 64) × CanJoinEach ts us

pub record CanJoin (t u : Tallied) : Type 0 where
  pub rows : t.rows + u.rows < 2 ^ 64
  pub sums : CanJoinEach t.sums u.sums

-- ---- reading

-- where the summary of a column stands
abbrev pub place_of : List Asked → ℕ → ℕ
place_of [] column = 0
place_of (a ∷ qs) column = if a.column == column then 0 else place_of qs column + 1

-- the summary of a column
abbrev pub sums_at : List Asked → List SumsOf → ℕ → SumsOf
sums_at asked ss column = get_or ss (place_of asked column) no_sums
