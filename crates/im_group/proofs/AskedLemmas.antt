-- What a query asks of its groups may be asked of the rows that it fits.
use Rattle.std.proofs.Common.{ℕ, ◌<◌, true, false, cond, List, [], ◌∷◌, ◌++◌, length, map, fold}
use Rattle.std.specs.List.{AllByRecursion}
use Rattle.im_values.specs.declared.content.Content.{Content as Value}
use Rattle.im_syntax.specs.declared.item.ItemOf.{ItemOf}
use Rattle.im_syntax.specs.declared.item.ItemOf.TheVariants as item
use Rattle.im_syntax.specs.declared.bound.Bound.{Bound}
use Rattle.im_syntax.specs.declared.bound.Key.{Key}
use Rattle.im_syntax.specs.BoundFits.{HasColumn, ItemFits, KeyFits, BoundFits}
use Rattle.im_syntax.specs.BoundQuery.{is_listed}
use Rattle.im_group.specs.Tallies.{wanted, with_column, asked_of, asked_in}

wanted_fit : (row : List Value) (is : List (ItemOf ℕ)) (ks : List Key) → AllByRecursion (ItemFits row) is → AllByRecursion (KeyFits row) ks
    → AllByRecursion (ItemFits row) (is ++ map (λ k. k.item) ks)
wanted_fit row [] [] a b = tt
wanted_fit row [] (k ∷ ks) a b = (b.0, wanted_fit row [] ks a b.1)
wanted_fit row (i ∷ is) ks a b = (a.0, wanted_fit row is ks a.1 b)

one_more : (row : List Value) (cs : List ℕ) (c : ℕ) → AllByRecursion (HasColumn row) cs → HasColumn row c → AllByRecursion (HasColumn row) (cs ++ c ∷ [])
one_more row [] c all has = (has, tt)
one_more row (d ∷ cs) c all has = (all.0, one_more row cs c all.1 has)

column_fits : (row : List Value) (cs : List ℕ) (i : ItemOf ℕ) → AllByRecursion (HasColumn row) cs → ItemFits row i
    → AllByRecursion (HasColumn row) (with_column cs i)
column_fits row cs (item.Column c) all fits = all
column_fits row cs item.CountAll all fits = all
column_fits row cs (item.Aggregate f c) all fits =
    elim (is_listed cs c) as (λ b. AllByRecursion (HasColumn row) (cond b cs (cs ++ c ∷ []))) [ true ↦ all | false ↦ one_more row cs c all fits.0 ]

columns_fit : (row : List Value) (cs : List ℕ) (is : List (ItemOf ℕ)) → AllByRecursion (HasColumn row) cs → AllByRecursion (ItemFits row) is
    → AllByRecursion (HasColumn row) (fold with_column cs is)
columns_fit row cs [] all fits = all
columns_fit row cs (i ∷ is) all fits = columns_fit row (with_column cs i) is (column_fits row cs i all fits.0) fits.1

each_asked : (row : List Value) (is : List (ItemOf ℕ)) (cs : List ℕ) → AllByRecursion (HasColumn row) cs
    → AllByRecursion (λ a. a.column < length row) (map (asked_of is) cs)
each_asked row is [] all = tt
each_asked row is (c ∷ cs) all = (all.0, each_asked row is cs all.1)

pub asked_fit : (row : List Value) (bound : Bound) → BoundFits row bound → AllByRecursion (λ a. a.column < length row) (asked_in (wanted bound))
unfolding asked_in
asked_fit row bound fits =
    each_asked row (wanted bound) (fold with_column [] (wanted bound))
    (columns_fit row [] (wanted bound) tt (wanted_fit row bound.items bound.keys fits.items fits.keys))
