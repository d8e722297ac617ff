-- Groups as the program holds them: in any order, each key once, under keys that it owns or that rows lend.
use Rattle.std.specs.Prelude.{◌≡◌, ℕ, List, length, map, None}
use Rattle.std.specs.Global.{Vec}
use Rattle.std.specs.List.{AllByRecursion}
use Rattle.std.specs.Option.{ForSome}
use Rattle.std.specs.declared.cmp.Ordering.{Ordering}
use Rattle.im_values.specs.declared.content.Content.{Content as Value}
use Rattle.im_syntax.specs.declared.bound.Bound.{Bound}
use Rattle.im_syntax.specs.declared.item.ItemOf.{ItemOf}
use Rattle.im_group.specs.declared.asked.Asked.{Asked}
use Rattle.im_group.specs.Tallies.{Tallied, wanted, asked_in, row_taken, HasRoom, CanJoin}
use Rattle.im_group.specs.Partials.{Groups, key_order, keyed, held, with_tallies}
use Rattle.im_group.specs.declared.cell.Cell.{Cell}
use Rattle.im_group.specs.Answers.{group_cell}
use Rattle.im_group.specs.inner.Steps.{tallies_at, placed, so_far}

-- what a query asks of the columns of each group
abbrev pub asked_by : Bound → List Asked
asked_by bound = asked_in (wanted bound)

-- the groups under keys of their own, in the order in which they are held, and as a map
abbrev pub own : List (Vec Value × Tallied) → List (List Value × Tallied)
own es = keyed (λ k. k.items) es

abbrev pub as_groups : List (Vec Value × Tallied) → Groups
as_groups es = held (λ k. k.items) es

-- two groups stand to each other as their keys do
abbrev pub entry_order : Vec Value × Tallied → Vec Value × Tallied → Ordering
entry_order a b = key_order a.0.items b.0.items

-- each group has so many values in its key
abbrev pub AreKeyed : ℕ → List (Vec Value × Tallied) → Type 0
AreKeyed count es = AllByRecursion (λ g. length g.0.items ≡ count) es

-- a record for each group, in the order in which they are held
abbrev pub held_records : List ℕ → List Asked → List (ItemOf ℕ) → List (Vec Value × Tallied) → List (List Cell)
held_records columns asked is es = map (λ g. map (group_cell columns asked g.0.items g.1) is) es

-- a group that takes a row, its first row, or what another part has of it
abbrev pub with_taken :
    List Asked → List (List Value × Tallied) → List Value → List Value → List (List Value × Tallied)
with_taken asked groups key row = placed groups key (row_taken asked (so_far asked (tallies_at groups key)) row)

abbrev pub with_first : List Asked → List (List Value × Tallied) → List Value → List Value → List (List Value × Tallied)
with_first asked groups key row = placed groups key (row_taken asked (so_far asked None) row)

abbrev pub with_group : List (List Value × Tallied) → List Value → Tallied → List (List Value × Tallied)
with_group groups key ts = placed groups key (with_tallies (tallies_at groups key) ts)

-- the counts of the group of a key stay below 2^64 with one row more
abbrev pub CanTake : List Asked → List (List Value × Tallied) → List Value → Type 0
CanTake asked groups key = HasRoom (so_far asked (tallies_at groups key))

-- the counts of each group of two parts stay below 2^64
abbrev pub CanJoinGroups : List (List Value × Tallied) → List (List Value × Tallied) → Type 0
CanJoinGroups olds others =
    (key : List Value) → ForSome (tallies_at olds key) (λ ts. ForSome (tallies_at others key) (λ us. CanJoin ts us))
