-- A unit that a query is answered from by the codes of the column that it is grouped by.
use Rattle.std.specs.Prelude.{◌≡◌, ◌==◌, ℕ, Bool, true, List, [], ◌∷◌, Contains, map, slice_index_or, if◌then◌else◌}
use Rattle.std.specs.List.{AllByRecursion}
use Rattle.im_values.specs.declared.content.Content.{Content as Value}
use Rattle.im_syntax.specs.declared.bound.Bound.{Bound}
use Rattle.im_history.specs.Rows.{Row}
use Rattle.im_codepred.specs.declared.tally.Tally.{Tally}
use Rattle.im_codepred.specs.Tallies.{AreTallies, IsTallyFor, chosen, chosen_with, count_of}
use Rattle.im_group.specs.declared.asked.Asked.{Asked}
use Rattle.im_group.specs.Sums.{sums_of}
use Rattle.im_group.specs.Tallies.{Tallied}
use Rattle.im_unit.specs.Holding.{values_in}
use Rattle.im_group.specs.MadeGroups.{with_sums}
use Rattle.im_scan.specs.inner.Summed.{wants_ends}

-- a query is grouped by one column
pub record IsGroupedBy (column : ℕ) (bound : Bound) : Type 0 where
  pub grouped : bound.grouped ≡ true
  pub alone : bound.groups ≡ column ∷ []

-- of each asked column, what its chosen values come to beside each of some values of the keys
abbrev pub AreAllTallies : List Bool → List Value → List Row → List Value → List Asked → List (List Tally) → Type 0
AreAllTallies mask keys held values [] [] = Unit {0}
AreAllTallies mask keys held values [] (tallies ∷ all) = ⊥
AreAllTallies mask keys held values (a ∷ asked) [] = ⊥
AreAllTallies mask keys held values (a ∷ asked) (tallies ∷ all) =
    AreTallies (wants_ends a) mask keys (values_in a.column held) values tallies × AreAllTallies mask keys held values asked all

-- of each asked column, these values come to the tally at a place
abbrev pub ComeTo : (Asked → List Value) → ℕ → List Asked → List (List Tally) → Type 0
ComeTo of place [] all = Unit {0}
ComeTo of place (a ∷ asked) [] = Unit {0}
ComeTo of place (a ∷ asked) (tallies ∷ all) =
    ((d : Tally) → IsTallyFor (wants_ends a) (of a) (slice_index_or tallies place d)) × ComeTo of place asked all

-- a group of one value, of so many rows and with a summary of these values of each asked column
abbrev pub group_for : (Asked → List Value) → List Asked → Value → ℕ → List Value × Tallied
group_for of asked value count = (value ∷ [], with_sums count (map (λ a. sums_of a (of a)) asked))

-- the groups of those values of which there are some
abbrev pub groups_for : (Value → Asked → List Value) → List Asked → List Value → List ℕ → List (List Value × Tallied)
groups_for of asked [] counts = []
groups_for of asked (value ∷ values) [] = []
groups_for of asked (value ∷ values) (count ∷ counts) =
    if count == 0 then groups_for of asked values counts
    else group_for (of value) asked value count ∷ groups_for of asked values counts

-- the groups of the chosen rows, by values among which all keys are
pub record AreByCode (mask : List Bool) (keys : List Value) (held : List Row) (asked : List Asked) (groups : List (List Value × Tallied)) : Type 0 where
  pub values : List Value
  pub all : AllByRecursion (Contains values) keys
  pub made : groups ≡ groups_for (λ value a. chosen_with value mask keys (values_in a.column held)) asked values (map (λ value. count_of value (chosen mask keys)) values)
