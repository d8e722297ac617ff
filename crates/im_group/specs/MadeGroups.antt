-- Groups that are made without their rows.
use Rattle.std.specs.Prelude.{◌≡◌, ℕ, ◌+◌, ◌<◌, ◌^◌, ◌++◌, Bool, List, length, map}
use Rattle.std.specs.List.{AllByRecursion, list_any}
use Rattle.im_values.specs.declared.content.Content.{Content as Value}
use Rattle.im_syntax.specs.declared.bound.Bound.{Bound}
use Rattle.im_group.specs.declared.made_groups.Group.{Group}
use Rattle.im_group.specs.Sums.{SumsOf}
use Rattle.im_group.specs.Tallies.{Tallied, asked_in, tallied, wanted}
use Rattle.im_group.specs.Partials.{Numbered, Parts, is_key, kept, keys_of, partial, tallies_of}

-- a group: its key, and what it has of its rows
abbrev pub group_of : Group → List Value × Tallied
group_of g = (g.key.items, record { rows = g.rows; sums = g.sums.items })

abbrev pub groups_in : List Group → List (List Value × Tallied)
groups_in gs = map group_of gs

-- the values of the rows that a query keeps
abbrev pub kept_values : Bound → List Numbered → List (List Value)
kept_values bound rows = map (λ r. r.1) (kept bound rows)

-- a key is one of these
abbrev pub is_among : List Value → List (List Value) → Bool
is_among key keys = list_any (is_key key) keys

-- These are the groups of the rows that a query keeps, in any order: each has taken what the kept rows of its key give, and a key
-- is that of one of them exactly where it is that of a group of the rows. A group that stands twice is the same group.
pub record AreGroupsOf (bound : Bound) (rows : List Numbered) (groups : List (List Value × Tallied)) : Type 0 where
  pub tallies : AllByRecursion (λ g. g.1 ≡ tallies_of bound (kept_values bound rows) g.0) groups
  pub keys : (key : List Value) → is_among key (map (λ g. g.0) groups) ≡ is_among key (keys_of bound.groups (kept_values bound rows))

-- ---- rows that are taken together

-- what a group has, of so many rows and with these summaries
abbrev pub with_sums : ℕ → List SumsOf → Tallied
with_sums count found = record { rows = count; sums = found }

-- of some rows a query keeps so many, with these summaries of the columns that it asks
abbrev pub ComeTo : Bound → List Numbered → ℕ → List SumsOf → Type 0
ComeTo bound rows count found = with_sums count found ≡ tallied (asked_in (wanted bound)) (kept_values bound rows)

-- a part is that of so few rows that rows which come to this may follow
pub record HasRoomTogether (bound : Bound) (part : Parts) (count : ℕ) (found : List SumsOf) : Type 0 where
  pub front : List Numbered
  pub back : List Numbered
  pub is : part ≡ partial bound front
  pub these : ComeTo bound back count found
  pub few : length front + length back < 2 ^ 64

-- a part goes on by whatever rows come to this
pub record GoesOnTogether (bound : Bound) (old : Parts) (count : ℕ) (found : List SumsOf) (new : Parts) : Type 0 where
  pub goes : (front back : List Numbered) → old ≡ partial bound front → ComeTo bound back count found → new ≡ partial bound (front ++ back)
