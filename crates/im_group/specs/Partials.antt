-- The part of an answer that some of the rows give.
use Rattle.std.specs.Prelude.{◌≡◌, ℕ, ◌+◌, ◌<◌, ◌^◌, Bool, true, false, List, [], ◌∷◌, ◌++◌, length, map, filter, Option, None, Some, if◌then◌else◌}
use Rattle.std.specs.Option.{ForSome}
use Rattle.std.specs.Ordering.{is_eq}
use Rattle.std.specs.declared.cmp.Ordering.{Ordering}
use Rattle.std.specs.Cmp.Lexicographic.{slice_cmp}
use Rattle.std.specs.FinMap as map_of
use denote.Ref.{Bor}
use Rattle.im_values.specs.declared.truth.Truth.{Truth}
use Rattle.im_values.specs.declared.truth.Truth.TheVariants.{Yes, No, Unknown}
use Rattle.im_values.specs.declared.content.Content.{Content as Value}
use Rattle.im_values.specs.Order.{order}
use Rattle.im_syntax.specs.Condition.{CondOf}
use Rattle.im_syntax.specs.declared.bound.Bound.{Bound}
use Rattle.im_syntax.specs.BoundFits.{value_at}
use Rattle.im_eval.specs.Holds.{truth_of}
use Rattle.im_group.specs.Tallies.{Tallied, wanted, asked_in, tallied, all_joined, CanJoin}

-- a row with its number
abbrev pub Numbered : Type 0
Numbered = ℕ × List Value

-- the rows that are lent, each with its number
abbrev pub lent_rows : List (ℕ × Bor (List Value)) → List Numbered
lent_rows rows = map (λ row. (row.0, row.1.now)) rows

-- the values that a group has in the columns of GROUP BY, and their order: from left to right, NULL last
abbrev pub key_order : List Value → List Value → Ordering
key_order = slice_cmp order

abbrev pub key_of : List ℕ → List Value → List Value
key_of columns row = map (value_at row) columns

abbrev pub is_key : List Value → List Value → Bool
is_key a b = is_eq (key_order a b)

-- ---- kept rows

abbrev pub is_yes : Truth → Bool
is_yes Yes = true
is_yes No = false
is_yes Unknown = false

-- the condition is Yes, or there is none
abbrev pub keeps : Option (CondOf ℕ Value) → List Value → Bool
keeps None row = true
keeps (Some filter) row = is_yes (truth_of filter row)

abbrev pub kept : Bound → List Numbered → List Numbered
kept bound rows = filter (λ r. keeps bound.filter r.1) rows

-- ---- groups

-- the rows of a group
abbrev pub members : List ℕ → List (List Value) → List Value → List (List Value)
members columns rows key = filter (λ row. is_key (key_of columns row) key) rows

-- what a group has taken of its rows
abbrev pub tallies_of : Bound → List (List Value) → List Value → Tallied
tallies_of bound rows key = tallied (asked_in (wanted bound)) (members bound.groups rows key)

-- the keys of groups: those of the rows. Without GROUP BY there is one group, also over no row
abbrev pub keys_of : List ℕ → List (List Value) → List (List Value)
keys_of [] rows = [] ∷ []
keys_of (column ∷ columns) rows = map (key_of (column ∷ columns)) rows

-- each group's tallies, by its key
abbrev pub Groups : Type 0
Groups = map_of.FinMap key_order Tallied

-- groups as they are held: in any order, each key once, and the values of a key in a container
abbrev pub keyed : {K : Type 0} → (K → List Value) → List (K × Tallied) → List (List Value × Tallied)
keyed values es = map (λ e. (values e.0, e.1)) es

abbrev pub held : {K : Type 0} → (K → List Value) → List (K × Tallied) → Groups
held values es = map_of.from_entries (keyed values es)

abbrev pub groups_of : Bound → List (List Value) → Groups
groups_of bound rows = map_of.from_entries (map (λ key. (key, tallies_of bound rows key)) (keys_of bound.groups rows))

-- ---- parts

-- the kept rows of a query that is not grouped, or the groups of one that is
pub record Parts : Type 0 where
  pub rows : List Numbered
  pub groups : Groups

abbrev pub partial : Bound → List Numbered → Parts
partial bound rows =
    if bound.grouped then record { rows = []; groups = groups_of bound (map (λ r. r.1) (kept bound rows)) }
    else record { rows = kept bound rows; groups = map_of.empty }

-- this is the part of some rows
pub record IsPart (bound : Bound) (part : Parts) : Type 0 where
  pub rows : List Numbered
  pub is : part ≡ partial bound rows

-- the part of rows that are so few that one more can be counted
pub record IsPartOfFew (bound : Bound) (part : Parts) : Type 0 where
  pub rows : List Numbered
  pub is : part ≡ partial bound rows
  pub few : length rows + 1 < 2 ^ 64

-- the part of some rows goes on to the part of these and of one row more
pub record GoesOn (bound : Bound) (old : Parts) (row : Numbered) (new : Parts) : Type 0 where
  pub goes : (rows : List Numbered) → old ≡ partial bound rows → new ≡ partial bound (rows ++ row ∷ [])

-- a part is that of so few rows that so many more can be counted
pub record IsPartOfSoFew (bound : Bound) (more : ℕ) (part : Parts) : Type 0 where
  pub rows : List Numbered
  pub is : part ≡ partial bound rows
  pub few : length rows + more < 2 ^ 64

-- the part of some rows goes on to the part of these and of rows of these values behind them, whatever their numbers are
pub record GoesOnWith (bound : Bound) (old : Parts) (values : List (List Value)) (new : Parts) : Type 0 where
  pub goes : (front back : List Numbered) → old ≡ partial bound front → map (λ r. r.1) back ≡ values → new ≡ partial bound (front ++ back)

-- the groups of two parts: a group of both joins what it has in each
abbrev pub with_tallies : Option Tallied → Tallied → Tallied
with_tallies None ts = ts
with_tallies (Some old) ts = all_joined old ts

abbrev pub joined_groups : Groups → Groups → Groups
joined_groups a b =
    map_of.from_entries (map (λ g. (g.0, with_tallies (map_of.get a g.0) g.1)) (map_of.entries b) ++ map_of.entries a)

abbrev pub merged : Parts → Parts → Parts
merged a b = record { rows = a.rows ++ b.rows; groups = joined_groups a.groups b.groups }

-- where two parts are those of two lists of rows, one is the part of both lists, one behind the other
abbrev pub IsPartOfBoth : Parts → Parts → Parts → Type 0
IsPartOfBoth a b whole =
    (bound : Bound) (front back : List Numbered) → a ≡ partial bound front → b ≡ partial bound back
    → whole ≡ partial bound (front ++ back)

-- the counts of each group of two parts stay below 2^64
abbrev pub CanMerge : Parts → Parts → Type 0
CanMerge a b =
    (key : List Value) → ForSome (map_of.get a.groups key) (λ ts. ForSome (map_of.get b.groups key) (λ us. CanJoin ts us))
