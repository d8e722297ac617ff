-- Counts stay below the rows that were counted.
use Rattle.std.proofs.Common.{ℕ, suc, ◌+◌, ◌<◌, ◌≤◌, ◌^◌, Bool, true, false, not, cond, List, [], ◌∷◌, length, map, filter, arith}
use Rattle.std.specs.List.{AllByRecursion}
use Rattle.std.proofs.lemmas.List.{length-map}
use Rattle.im_values.specs.declared.content.Content.{Content as Value}
use Rattle.im_values.specs.Order.{is_null}
use Rattle.im_syntax.specs.BoundFits.{value_at}
use Rattle.im_group.specs.declared.asked.Asked.{Asked}
use Rattle.im_group.specs.Sums.{column_of, present, sums_of}
use Rattle.im_group.specs.Tallies.{tallied, HasRoom, CanJoin, CanJoinEach}

pub shorter : {A : Type 0} (p : A → Bool) (xs : List A) → length (filter p xs) ≤ length xs
shorter p [] = omega arith
shorter p (x ∷ xs) =
    elim (p x) as (λ b. length (cond b (x ∷ filter p xs) (filter p xs)) ≤ suc (length xs))
    [ true ↦ omega (arith, shorter p xs) | false ↦ omega (arith, shorter p xs) ]

counted_present : (c : ℕ) (rows : List (List Value)) → length (present (column_of c rows)) ≤ length rows
counted_present c rows = let less = shorter (λ v. not (is_null v)) (column_of c rows) in let same = length-map rows (λ row. value_at row c) in omega arith

each_few : (qs : List Asked) (rows : List (List Value)) → length rows + 1 < 2 ^ 64
    → AllByRecursion (λ s. s.values + 1 < 2 ^ 64) (map (λ a. sums_of a (column_of a.column rows)) qs)
each_few [] rows few = tt
each_few (a ∷ qs) rows few = (omega (arith, counted_present a.column rows), each_few qs rows few)

pub all_few : (qs : List Asked) (rows : List (List Value)) → length rows + 1 < 2 ^ 64 → HasRoom (tallied qs rows)
all_few qs rows few = record { rows = few; sums = each_few qs rows few }

each_join : (qs : List Asked) (ms ns : List (List Value)) → length ms + length ns < 2 ^ 64
    → CanJoinEach (map (λ a. sums_of a (column_of a.column ms)) qs) (map (λ a. sums_of a (column_of a.column ns)) qs)
each_join [] ms ns few = tt
each_join (a ∷ qs) ms ns few = (omega (arith, counted_present a.column ms, counted_present a.column ns), each_join qs ms ns few)

pub few_join : (qs : List Asked) (ms ns : List (List Value)) → length ms + length ns < 2 ^ 64 → CanJoin (tallied qs ms) (tallied qs ns)
few_join qs ms ns few = record { rows = few; sums = each_join qs ms ns few }
