-- One step of the loops over tallies and groups.
use Rattle.std.specs.Prelude.{◌≡◌, ℕ, ◌+◌, nat_lt, Bool, false, List, [], ◌∷◌, length, set, fold, get_or, slice_get, Option, None, Some, if◌then◌else◌}
use Rattle.std.specs.FinMap as map_of
use Rattle.std.specs.Option.{option_map_or}
use Rattle.im_values.specs.declared.content.Content.{Content as Value}
use Rattle.im_group.specs.declared.asked.Asked.{Asked}
use Rattle.im_syntax.specs.declared.bound.Bound.{Bound}
use Rattle.im_group.specs.Sums.{SumsOf, joined}
use Rattle.im_group.specs.Tallies.{Tallied, tallied}
use Rattle.im_group.specs.Partials.{key_order, is_key, groups_of}

-- a summary joined to that at a place, unless the place is past the end
abbrev pub joined_at : List SumsOf → ℕ → SumsOf → List SumsOf
joined_at ts place u = if nat_lt place (length ts) then set ts place (joined (get_or ts place u) u) else ts

abbrev pub next_place : ℕ → ℕ → ℕ
next_place count place = if nat_lt place count then place + 1 else place

-- what groups have at a key
abbrev pub tallies_at : List (List Value × Tallied) → List Value → Option Tallied
tallies_at groups key = map_of.find key_order key groups

-- the group at a place has this key
abbrev pub stands_at : List (List Value × Tallied) → List Value → ℕ → Bool
stands_at groups key place = option_map_or (λ g. is_key key g.0) (slice_get groups place) false

-- groups, with new tallies at one key
abbrev pub placed : List (List Value × Tallied) → List Value → Tallied → List (List Value × Tallied)
placed [] key ts = (key, ts) ∷ []
placed (g ∷ gs) key ts = if is_key key g.0 then (g.0, ts) ∷ gs else g ∷ placed gs key ts

-- groups put one after the other, each at its key
abbrev pub all_placed : List (List Value × Tallied) → List (List Value × Tallied)
all_placed groups = fold (λ put g. placed put g.0 g.1) [] groups

-- what a group has taken so far, which is nothing where it is new
abbrev pub so_far : List Asked → Option Tallied → Tallied
so_far asked None = tallied asked []
so_far asked (Some ts) = ts

-- the one group of a query without GROUP BY
abbrev pub one_group : Tallied → List (List Value × Tallied)
one_group ts = ([], ts) ∷ []

-- the groups of no row: without GROUP BY there is one
abbrev pub first_groups : List ℕ → List Asked → List (List Value × Tallied)
first_groups [] asked = one_group (tallied asked [])
first_groups (c ∷ cs) asked = []

-- the groups of rows, in any order, as each key finds them
pub record GroupsAre (bound : Bound) (rows : List (List Value)) (groups : List (List Value × Tallied)) : Type 0 where
  pub at : (key : List Value) → tallies_at groups key ≡ map_of.get (groups_of bound rows) key
