-- Rows that are gathered behind what was read before.
use Prim.Native.Nat.{zero, suc}
use Rattle.std.proofs.Common.{◌≡◌, ℕ, ◌+◌, ◌*◌, ◌^◌, ◌<◌, ◌≤◌, List, [], ◌∷◌, ◌++◌, drop, length, take, Option, Some, refl, sym, ap, ◌∙◌, arith, append_assoc}
use Rattle.std.specs.List.{slice_get}
use Rattle.std.proofs.lemmas.List.{append-nil, length-append, nil_from_length, take_all}
use Rattle.im_values.specs.Stretches.{cut}
use Rattle.im_values.specs.declared.content.Content.{Content as Value}
use Rattle.im_values.proofs.ForCallers.{cut-push}
use Rattle.im_history.specs.Fetched.{run_from}
use Rattle.im_history.proofs.FetchedLaws.{run_from-next, run_from-push}
use Rattle.im_blocks.specs.declared.gathered.Gathered.{Gathered}
use Rattle.im_blocks.specs.inner.Gathering.{Gathers, IsFlushed, IsReadyAt, IsWhole, gathered}

abbrev Read : Type 0
Read = List (ℕ × Option (List Value))

pub length-cut : (count width : ℕ) (values : List Value) → length (cut count width values) ≡ count
length-cut zero width values = refl
length-cut (suc count) width values = ap suc (length-cut count width (drop width values))

-- where no row is gathered, all was fetched
none-gathered : (fetched : Read) (first count width : ℕ) (values : List Value) → count ≡ 0 → fetched ++ run_from first (cut count width values) ≡ fetched
none-gathered fetched first count width values none =
    ap (λ (n : ℕ). fetched ++ run_from first (cut n width values)) none ∙ append-nil fetched

-- of no rows there are no values
no-values : (count width : ℕ) (values : List Value) → length values ≡ count * width → count ≡ 0 → values ≡ []
no-values count width values long none = nil_from_length values (long ∙ (ap (λ (n : ℕ). n * width) none ∙ omega arith))

pub IsFlushed-none : (g : Gathered) → IsWhole g → g.count ≡ 0 → IsFlushed g g
IsFlushed-none g whole none = record {
  fetched_is = sym (none-gathered g.fetched g.first g.count g.width g.values.items none);
  first_is = refl;
  none = none;
  empty = no-values g.count g.width g.values.items whole.long none;
}

-- a row alone
pub fetched-one : (g : Gathered) (new : Read) → IsWhole g → g.count ≡ 1 → new ≡ g.fetched ++ (g.first, Some g.values.items) ∷ [] → new ≡ gathered g
fetched-one g new whole one is =
    is
    ∙ (ap (λ (row : List Value). g.fetched ++ (g.first, Some row) ∷ []) (sym (take_all g.width g.values.items (wide g whole one)))
    ∙ ap (λ (n : ℕ). g.fetched ++ run_from g.first (cut n g.width g.values.items)) (sym one))
  where
    wide : (g : Gathered) → IsWhole g → g.count ≡ 1 → length g.values.items ≤ g.width
    wide g whole one =
        let long : length g.values.items ≡ 1 * g.width = whole.long ∙ ap (λ (n : ℕ). n * g.width) one in
        omega (arith, long)

-- the numbers of a block's rows
pub numbers-cut : (g : Gathered) (rows : List (List Value)) → IsWhole g → rows ≡ cut g.count g.width g.values.items → g.first + length rows ≤ 2 ^ 63
numbers-cut g rows whole is =
    let long : length rows ≡ g.count = ap length is ∙ length-cut g.count g.width g.values.items in
    let small = whole.small in
    omega (arith, long, small)

-- what was read once nothing is gathered any more
pub Gathers-flushed : (old mid new : Gathered) (more : Read) → IsWhole old → IsFlushed old mid → new.fetched ≡ mid.fetched ++ more
    → new.first ≡ mid.first → new.count ≡ mid.count → new.values.items ≡ mid.values.items → Gathers old new more
Gathers-flushed old mid new more whole flushed is first_is count_is values_is =
    let none : new.count ≡ 0 = count_is ∙ flushed.none in
    let small = whole.small in
    let first : new.first ≡ old.first = first_is ∙ flushed.first_is in
    let bound : new.first + new.count ≤ 2 ^ 63 = omega (arith, none, small, first) in
    record {
      rows = none-gathered new.fetched new.first new.count new.width new.values.items none
          ∙ (is ∙ ap (λ (l : Read). l ++ more) flushed.fetched_is);
      whole = record {
        long = ap length (values_is ∙ flushed.empty) ∙ (omega arith ∙ ap (λ (n : ℕ). n * new.width) (sym none));
        small = bound;
      };
    }

-- a row goes on where the others end
pub IsReadyAt-on : (g : Gathered) (rid width : ℕ) → IsWhole g → g.first + g.count ≡ rid → g.width ≡ width → IsReadyAt g g rid width
IsReadyAt-on g rid width whole at width_is = record { rows = refl; whole = whole; at = at; width_is = width_is }

-- or begins a block
pub IsReadyAt-anew : (old mid new : Gathered) (rid width : ℕ) → rid ≤ 2 ^ 63 → IsFlushed old mid → new.fetched ≡ mid.fetched
    → new.first ≡ rid → new.width ≡ width → new.count ≡ mid.count → new.values.items ≡ mid.values.items → IsReadyAt old new rid width
IsReadyAt-anew old mid new rid width number flushed is first_is width_is count_is values_is =
    let none : new.count ≡ 0 = count_is ∙ flushed.none in
    record {
      rows = none-gathered new.fetched new.first new.count new.width new.values.items none ∙ (is ∙ flushed.fetched_is);
      whole = record {
        long = ap length (values_is ∙ flushed.empty) ∙ (omega arith ∙ ap (λ (n : ℕ). n * new.width) (sym none));
        small = omega (arith, none, first_is, number);
      };
      at = omega (arith, none, first_is);
      width_is = width_is;
    }

-- one row more in the block
pub Gathers-put : (old new : Gathered) (row : List Value) → IsWhole old → old.width ≡ length row → old.first + old.count < 2 ^ 63
    → new.fetched ≡ old.fetched → new.first ≡ old.first → new.width ≡ old.width → new.count ≡ old.count + 1
    → new.values.items ≡ old.values.items ++ row → Gathers old new ((old.first + old.count, Some row) ∷ [])
Gathers-put old new row whole wide number fetched_is first_is width_is count_is values_is =
    let first = old.first in
    let rows = cut old.count old.width old.values.items in
    let one : old.count + 1 ≡ suc old.count = omega arith in
    let next : cut new.count new.width new.values.items ≡ rows ++ row ∷ [] =
    ap (λ (n : ℕ). cut n new.width new.values.items) (count_is ∙ one)
    ∙ (ap (λ (n : ℕ). cut (suc old.count) n new.values.items) width_is
    ∙ (ap (λ (l : List Value). cut (suc old.count) old.width l) values_is
    ∙ cut-push old.count old.width old.values.items row whole.long (sym wide))) in
    let long : length rows ≡ old.count = length-cut old.count old.width old.values.items in
    record {
      rows = ap (λ (l : Read). l ++ run_from new.first (cut new.count new.width new.values.items)) fetched_is
          ∙ (ap (λ (n : ℕ). old.fetched ++ run_from n (cut new.count new.width new.values.items)) first_is
          ∙ (ap (λ (l : List (List Value)). old.fetched ++ run_from first l) next
          ∙ (ap (λ (l : Read). old.fetched ++ l) (run_from-push first rows row ∙ ap (λ (n : ℕ). run_from first rows ++ (first + n, Some row) ∷ []) long)
          ∙ sym (append_assoc old.fetched (run_from first rows) ((first + old.count, Some row) ∷ [])))));
      whole = record {
        long = longer;
        small = omega (arith, number, first_is, count_is);
      };
    }
  where
    longer : length new.values.items ≡ new.count * new.width
    longer =
        let sum : length new.values.items ≡ length old.values.items + length row = ap length values_is ∙ length-append old.values.items row in
        let long = whole.long in
        let product : new.count * new.width ≡ (old.count + 1) * old.width = ap (λ (n : ℕ). n * new.width) count_is ∙ ap (λ (n : ℕ). (old.count + 1) * n) width_is in
        let all : (old.count + 1) * old.width ≡ old.count * old.width + old.width = grind arith in
        omega (arith, sum, long, product, all, wide)

-- a row at a row number for which it was made ready
pub Gathers-row : (old mid new : Gathered) (rid : ℕ) (row : List Value) → IsReadyAt old mid rid (length row)
    → Gathers mid new ((mid.first + mid.count, Some row) ∷ []) → Gathers old new ((rid, Some row) ∷ [])
Gathers-row old mid new rid row ready put = record {
  rows = put.rows
      ∙ (ap (λ (l : Read). l ++ (mid.first + mid.count, Some row) ∷ []) ready.rows
      ∙ ap (λ (n : ℕ). gathered old ++ (n, Some row) ∷ []) ready.at);
  whole = put.whole;
}

slice-drop : (rows : List (List Value)) (from at : ℕ) → slice_get (drop from rows) at ≡ slice_get rows (from + at)
slice-drop rows zero at = let is : at ≡ 0 + at = omega arith in ap (λ (n : ℕ). slice_get rows n) is
slice-drop [] (suc from) at = refl
slice-drop (row ∷ rows) (suc from) at =
    let next : suc (from + at) ≡ suc from + at = omega arith in
    slice-drop rows from at ∙ ap (λ (n : ℕ). slice_get (row ∷ rows) n) next

-- one row of a run more
pub Gathers-next : (old mid new : Gathered) (rid from at : ℕ) (rows : List (List Value)) (row : List Value) → slice_get rows (from + at) ≡ Some row
    → Gathers old mid (run_from rid (take at (drop from rows))) → Gathers mid new ((rid + at, Some row) ∷ [])
    → Gathers old new (run_from rid (take (at + 1) (drop from rows)))
Gathers-next old mid new rid from at rows row is before put =
    let there : slice_get (drop from rows) at ≡ Some row = slice-drop rows from at ∙ is in
    record {
      rows = put.rows
          ∙ (ap (λ (l : Read). l ++ (rid + at, Some row) ∷ []) before.rows
          ∙ (append_assoc (gathered old) (run_from rid (take at (drop from rows))) ((rid + at, Some row) ∷ [])
          ∙ ap (λ (l : Read). gathered old ++ l) (sym (run_from-next rid (drop from rows) at row there))));
      whole = put.whole;
    }

-- no row of a run yet
pub Gathers-begun : (g : Gathered) (rid from : ℕ) (rows : List (List Value)) → IsWhole g → Gathers g g (run_from rid (take 0 (drop from rows)))
Gathers-begun g rid from rows whole = record {
  rows = sym (append-nil (gathered g));
  whole = whole;
}
