-- The part of a query that takes the rows of a run together, by a summary of each column.
use Rattle.std.proofs.Common.{◌≡◌, All, ℕ, ◌+◌, Bool, true, false, if◌then◌else◌, List, [], ◌∷◌, length, map, filter, count_by, Some, refl, sym, ap, subst, ◌∙◌, arith}
use Rattle.std.specs.List.{AllByRecursion}
use Rattle.std.proofs.lemmas.List.Elements.{All-from_recursion}
use Rattle.im_syntax.specs.declared.bound.Bound.{Bound}
use Rattle.im_syntax.specs.BoundFits.{BoundFits, FilterFits, HasColumn}
use Rattle.im_syntax.specs.Condition.{CondOf}
use Rattle.im_values.specs.declared.content.Content.{Content as Value}
use Rattle.im_history.specs.Fetched.{run_from}
use Rattle.im_history.specs.Rows.{Row}
use Rattle.im_codepred.specs.Tallies.{chosen}
use Rattle.im_group.specs.declared.asked.Asked.{Asked}
use Rattle.im_group.specs.MadeGroups.{GoesOnTogether, HasRoomTogether, kept_values, with_sums}
use Rattle.im_group.specs.Partials.{Numbered, Parts, keeps, kept}
use Rattle.im_group.specs.Sums.{SumsOf, sums_of}
use Rattle.im_group.specs.Tallies.{asked_in, tallied, wanted}
use Rattle.im_group.proofs.ForCallers.{asked-fit}
use Rattle.im_unit.specs.Holding.{values_in}
use Rattle.im_scan.specs.inner.Pieces.{AreOfRun, HasRoomFor, numbered_all}
use Rattle.im_scan.specs.inner.Steps.{GoesOnBy}
use Rattle.im_scan.proofs.PieceLemmas.{length-numbered-run}
use Rattle.im_scan.proofs.SummedLemmas.{chosen-tallied}

-- the values that a query keeps of the rows of a run
run-kept : (bound : Bound) (first : ℕ) (rows : List Row) → kept_values bound (numbered_all (run_from first rows)) ≡ filter (keeps bound.filter) rows
run-kept bound first [] = refl
run-kept bound first (row ∷ rows) = by (keeps bound.filter row) (run-kept bound (first + 1) rows)
  where
    later : List Numbered
    later = kept bound (numbered_all (run_from (first + 1) rows))

    by : (b : Bool) → map (λ r. r.1) later ≡ filter (keeps bound.filter) rows →
        map (λ (r : Numbered). r.1) (if b then (first, row) ∷ later else later) ≡
        (if b then row ∷ filter (keeps bound.filter) rows else filter (keeps bound.filter) rows)
    by true e = ap (λ (l : List Row). row ∷ l) e
    by false e = e

-- what the chosen rows of a run give
pub run-tallied : (bound : Bound) (first : ℕ) (rows : List Row) (mask : List Bool) (n : ℕ) (asked : List Asked) (found : List SumsOf) →
    mask ≡ map (keeps bound.filter) rows → n ≡ count_by (λ chosen. chosen) mask → asked ≡ asked_in (wanted bound) →
    found ≡ map (λ a. sums_of a (chosen mask (values_in a.column rows))) asked →
    with_sums n found ≡ tallied (asked_in (wanted bound)) (kept_values bound (numbered_all (run_from first rows)))
run-tallied bound first rows mask n asked found is counted asks summed =
    chosen-tallied (keeps bound.filter) asked mask rows n found is counted summed
    ∙ (ap (λ qs. tallied qs (filter (keeps bound.filter) rows)) asks
    ∙ ap (tallied (asked_in (wanted bound))) (sym (run-kept bound first rows)))

-- what holds of the first of some, and of the others, where it holds of all with each of others
heads : {X Y : Type 0} (P : X → Y → Type 0) (xs : List X) (y : Y) (ys : List Y) →
    AllByRecursion (λ x. AllByRecursion (P x) (y ∷ ys)) xs → AllByRecursion (λ x. P x y) xs
heads P [] y ys all = tt
heads P (x ∷ xs) y ys all = (all.0.0, heads P xs y ys all.1)

tails : {X Y : Type 0} (P : X → Y → Type 0) (xs : List X) (y : Y) (ys : List Y) →
    AllByRecursion (λ x. AllByRecursion (P x) (y ∷ ys)) xs → AllByRecursion (λ x. AllByRecursion (P x) ys) xs
tails P [] y ys all = tt
tails P (x ∷ xs) y ys all = (all.0.1, tails P xs y ys all.1)

-- what holds of each of some with each of others, the other way round
swapped : {X Y : Type 0} (P : X → Y → Type 0) (xs : List X) (ys : List Y) → AllByRecursion (λ x. AllByRecursion (P x) ys) xs →
    AllByRecursion (λ y. All (λ x. P x y) xs) ys
swapped P xs [] all = tt
swapped P xs (y ∷ ys) all = (All-from_recursion (λ x. P x y) xs (heads P xs y ys all), swapped P xs ys (tails P xs y ys all))

-- a query asks for columns that each of the rows has
each-fits : (bound : Bound) (rows : List Row) → AllByRecursion (λ row. BoundFits row bound) rows →
    AllByRecursion (λ row. AllByRecursion (λ a. HasColumn row a.column) (asked_in (wanted bound))) rows
each-fits bound [] all = tt
each-fits bound (row ∷ rows) all = (asked-fit row bound all.0, each-fits bound rows all.1)

-- each row of a run has each column of which a query asks
pub run-inside : (bound : Bound) (rows : List Row) (asked : List Asked) → asked ≡ asked_in (wanted bound) →
    AllByRecursion (λ row. BoundFits row bound) rows → All (λ a. All (λ row. HasColumn row a.column) rows) asked
run-inside bound rows asked asks fits =
    subst (All (λ a. All (λ row. HasColumn row a.column) rows)) (sym asks)
    (All-from_recursion (λ a. All (λ row. HasColumn row a.column) rows) (asked_in (wanted bound))
    (swapped (λ row a. HasColumn row a.column) rows (asked_in (wanted bound)) (each-fits bound rows fits)))

-- of each row of a run a condition may be asked
pub run-asks : (bound : Bound) (filter : CondOf ℕ Value) (rows : List Row) → bound.filter ≡ Some filter →
    AllByRecursion (λ row. BoundFits row bound) rows → All (λ row. FilterFits row filter) rows
run-asks bound filter rows is fits = All-from_recursion (λ row. FilterFits row filter) rows (each rows fits)
  where
    each : (rows : List Row) → AllByRecursion (λ row. BoundFits row bound) rows → AllByRecursion (λ row. FilterFits row filter) rows
    each [] all = tt
    each (row ∷ rows) all = (all.0.filter filter is, each rows all.1)

-- a part that has room for the rows of a run has room for what they come to
pub run-room : (bound : Bound) (first : ℕ) (rows : List Row) (mask : List Bool) (n : ℕ) (found : List SumsOf) (part : Parts) →
    HasRoomFor bound (length rows) part → AreOfRun bound rows mask found → n ≡ count_by (λ chosen. chosen) mask →
    HasRoomTogether bound part n found
run-room bound first rows mask n found part room are counted = record {
  front = room.rows;
  back = numbered_all (run_from first rows);
  is = room.is;
  these = ap (λ k. with_sums k found) counted ∙ are.come first;
  few = omega (arith, room.few, length-numbered-run first rows);
}

-- and goes on by them
pub run-goes : (bound : Bound) (first : ℕ) (rows : List Row) (mask : List Bool) (n : ℕ) (found : List SumsOf) (part new : Parts) →
    AreOfRun bound rows mask found → n ≡ count_by (λ chosen. chosen) mask → GoesOnTogether bound part n found new →
    GoesOnBy bound part (numbered_all (run_from first rows)) new
run-goes bound first rows mask n found part new are counted goes = record {
  goes = λ front is. goes.goes front (numbered_all (run_from first rows)) is (ap (λ k. with_sums k found) counted ∙ are.come first);
}
