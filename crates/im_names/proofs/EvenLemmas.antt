-- Tuples that are kept as values and fit the columns have no fault, and are their rows.
use Rattle.std.proofs.Common.{◌≡◌, ℕ, zero, suc, ◌+◌, Bool, true, false, List, [], ◌∷◌, length, get_or, drop, map, Some, None, refl, sym, ap, ◌∙◌, arith}
use Rattle.std.proofs.lemmas.Bool.Decides.{nat_tests}
use Rattle.std.proofs.lemmas.List.{length-map}
use Rattle.std.proofs.lemmas.List.FromFn.{length-range_with_len}
use Rattle.std.specs.Prelude.{slice_get, ◌==◌}
use Rattle.std.specs.List.{list_all, range_with_len, zip}
use Rattle.im_values.specs.declared.schema.Column.{Column}
use Rattle.im_values.specs.declared.schema.Kind.{Kind}
use Rattle.im_values.specs.declared.schema.Kind.TheVariants as kind
use Rattle.im_values.specs.declared.content.Content.{Content as Value}
use Rattle.im_values.specs.declared.content.Content.TheVariants as value
use Rattle.im_values.specs.Fits.{may_stand, fits}
use Rattle.im_syntax.specs.declared.literal.Lit.TheVariants as lit
use Rattle.im_syntax.specs.Tuples.{lit_of, written, is_proper, AreProper}
use Rattle.im_syntax.proofs.EvenLemmas.{both}
use Rattle.im_names.specs.Faults.{first_fault, Passes}
use Rattle.im_names.specs.Literals.{value_of, stored}
use Rattle.im_names.specs.Rows.{stored_fault, tuple_fault, count_fault, source, value_in, row_of, rows_of, insert_fault}
use Rattle.im_names.specs.inner.FittingLiterals.{literal_fits}
use Rattle.im_names.proofs.Fitting.{fits_stored}
use Rattle.im_names.proofs.TargetLemmas.{source_inside, drop_at}

-- ---- one value

itself : (v : Value) → is_proper v ≡ true → value_of (lit_of v) ≡ v
itself (value.Int n) e = refl
itself (value.Text []) e = absurd cc
itself (value.Text (b ∷ bs)) e = refl
itself value.Null e = refl

written_fits : (k : Kind) (v : Value) → may_stand k v ≡ true → literal_fits k (lit_of v) ≡ true
written_fits kind.Int (value.Int n) e = refl
written_fits kind.Int (value.Text t) e = absurd cc
written_fits kind.Int value.Null e = refl
written_fits (kind.Text limit) (value.Int n) e = absurd cc
written_fits (kind.Text limit) (value.Text t) e = e
written_fits (kind.Text limit) value.Null e = refl

no_fault : (c : Column) (v : Value) → may_stand c.kind v ≡ true → stored (value_of (lit_of v)) c ≡ None
no_fault c v e = fits_stored c (lit_of v) (written_fits c.kind v e)

-- ---- one tuple

at_drop : {A : Type 0} (xs : List A) (i : ℕ) (x : A) (rest : List A) → drop i xs ≡ x ∷ rest → (slice_get xs i ≡ Some x) × (drop (i + 1) xs ≡ rest)
at_drop [] zero x rest e = absurd cc
at_drop [] (suc i) x rest e = absurd cc
at_drop (y ∷ ys) zero x rest e = let same : y ≡ x = cc in let left : ys ≡ rest = cc in (ap Some same, left)
at_drop (y ∷ ys) (suc i) x rest e = let next : suc i + 1 ≡ suc (i + 1) = omega arith in rw next (at_drop ys i x rest e)

read_at : (row : List Value) (i : ℕ) (v : Value) (rest : List Value) → drop i row ≡ v ∷ rest → get_or (map lit_of row) i lit.Null ≡ lit_of v
read_at [] zero v rest e = absurd cc
read_at [] (suc i) v rest e = absurd cc
read_at (y ∷ ys) zero v rest e = let same : y ≡ v = cc in ap lit_of same
read_at (y ∷ ys) (suc i) v rest e = read_at ys i v rest e

faultless : (columns : List Column) (i : ℕ) (cs : List Column) (vs : List Value) → drop i columns ≡ cs → fits vs cs ≡ true
    → first_fault (map (stored_fault columns) (zip (range_with_len i (length cs)) (map lit_of vs))) ≡ None
faultless columns i [] [] is e = refl
faultless columns i [] (v ∷ vs) is e = absurd cc
faultless columns i (c ∷ cs) [] is e = absurd cc
faultless columns i (c ∷ cs) (v ∷ vs) is e =
    let two = both (may_stand c.kind v) (fits vs cs) e in
    let at = at_drop columns i c cs is in
    rw (at.0, no_fault c v two.0) (faultless columns (i + 1) cs vs at.1 two.1)

long : (vs : List Value) (cs : List Column) → fits vs cs ≡ true → length vs ≡ length cs
long [] [] e = refl
long [] (c ∷ cs) e = absurd cc
long (v ∷ vs) [] e = absurd cc
long (v ∷ vs) (c ∷ cs) e = ap suc (long vs cs (both (may_stand c.kind v) (fits vs cs) e).1)

-- each column takes its value from the tuple, and none its default
taken_rest : (defaults : List Value) (width : ℕ) (row rest : List Value) (i n : ℕ) → i + n ≡ width → drop i row ≡ rest → length rest ≡ n
    → list_all is_proper rest ≡ true
    → map (value_in defaults (range_with_len 0 width) (map lit_of row)) (range_with_len i n) ≡ rest
taken_rest defaults width row [] i zero sum is many proper = refl
taken_rest defaults width row [] i (suc n) sum is many proper = absurd (omega (arith, many))
taken_rest defaults width row (v ∷ vs) i zero sum is many proper = absurd (omega (arith, many))
taken_rest defaults width row (v ∷ vs) i (suc n) sum is many proper =
    let two = both (is_proper v) (list_all is_proper vs) proper in
    let place : source (range_with_len 0 width) i ≡ Some i = sym (source_inside width i (omega (arith, sum))) in
    let same : value_of (get_or (map lit_of row) i lit.Null) ≡ v = ap value_of (read_at row i v vs is) ∙ itself v two.0 in
    let others = taken_rest defaults width row vs (i + 1) n (omega (arith, sum)) (at_drop row i v vs is).1 (omega (arith, many)) two.1 in
    rw (place, same, others) refl

is_count : (n m : ℕ) → n ≡ m → (n == m) ≡ true
is_count n m e = grind (arith, nat_tests)

right_count : (columns : List Column) (row : List Value) → fits row columns ≡ true
    → count_fault (length (range_with_len 0 (length columns))) (map lit_of row) ≡ None
right_count columns row e =
    rw (is_count (length (map lit_of row)) (length (range_with_len 0 (length columns)))
    (length-map row lit_of ∙ long row columns e ∙ sym (length-range_with_len 0 (length columns)))) refl

row_itself : (columns : List Column) (defaults row : List Value) → fits row columns ≡ true → list_all is_proper row ≡ true
    → row_of (length columns) defaults (range_with_len 0 (length columns)) (map lit_of row) ≡ row
row_itself columns defaults row e proper = taken_rest defaults (length columns) row row 0 (length columns) (omega arith) refl (long row columns e) proper

-- ---- all tuples

all_counts : (columns : List Column) (rows : List (List Value)) → list_all (λ row. fits row columns) rows ≡ true
    → first_fault (map (count_fault (length (range_with_len 0 (length columns)))) (written rows)) ≡ None
all_counts columns [] e = refl
all_counts columns (row ∷ rows) e =
    let two = both (fits row columns) (list_all (λ row. fits row columns) rows) e in
    rw (right_count columns row two.0) (all_counts columns rows two.1)

all_faultless : (columns : List Column) (rows : List (List Value)) → list_all (λ row. fits row columns) rows ≡ true
    → first_fault (map (tuple_fault columns (range_with_len 0 (length columns))) (written rows)) ≡ None
all_faultless columns [] e = refl
all_faultless columns (row ∷ rows) e =
    let two = both (fits row columns) (list_all (λ row. fits row columns) rows) e in
    rw (faultless columns 0 columns row refl two.0) (all_faultless columns rows two.1)

pub even_faultless : (columns : List Column) (rows : List (List Value)) → list_all (λ row. fits row columns) rows ≡ true
    → insert_fault columns [] (written rows) ≡ None
even_faultless columns rows e = rw (all_counts columns rows e, all_faultless columns rows e) refl

each_itself : (columns : List Column) (defaults : List Value) (rows : List (List Value)) → list_all (λ row. fits row columns) rows ≡ true → list_all (list_all is_proper) rows ≡ true
    → rows_of columns defaults [] (written rows) ≡ rows
each_itself columns defaults [] e proper = refl
each_itself columns defaults (row ∷ rows) e proper =
    let two = both (fits row columns) (list_all (λ row. fits row columns) rows) e in
    let all = both (list_all is_proper row) (list_all (list_all is_proper) rows) proper in
    rw (row_itself columns defaults row two.0 all.0, each_itself columns defaults rows two.1 all.1) refl

pub even_rows : (columns : List Column) (defaults : List Value) (rows : List (List Value)) → list_all (λ row. fits row columns) rows ≡ true → AreProper rows
    → rows_of columns defaults [] (written rows) ≡ rows
even_rows columns defaults rows e proper = each_itself columns defaults rows e proper.each

-- ---- the code

pub all_goes : {A : Type 0} (p : A → Bool) (xs : List A) (i : ℕ) (x : A) → slice_get xs i ≡ Some x → p x ≡ true → list_all p (drop i xs) ≡ list_all p xs
    → list_all p (drop (i + 1) xs) ≡ list_all p xs
all_goes p xs i x is holds so_far =
    let next : list_all p (drop i xs) ≡ list_all p (drop (i + 1) xs) = rw (drop_at xs i x is, holds) refl in
    sym next ∙ so_far

pub all_stops : {A : Type 0} (p : A → Bool) (xs : List A) (i : ℕ) (x : A) → slice_get xs i ≡ Some x → p x ≡ false → list_all p (drop i xs) ≡ list_all p xs
    → false ≡ list_all p xs
all_stops p xs i x is fails so_far =
    let here : list_all p (drop i xs) ≡ false = rw (drop_at xs i x is, fails) refl in
    sym here ∙ so_far

pub even_passes : (columns : List Column) (defaults : List Value) (names : List (List ℕ)) (tuples rows : List (List Value)) → length names ≡ 0
    → list_all (λ row. fits row columns) tuples ≡ true → AreProper tuples → rows ≡ tuples
    → Passes (insert_fault columns names (written tuples)) (rows ≡ rows_of columns defaults names (written tuples))
even_passes columns defaults [] tuples rows none fit proper is = record {
  free = even_faultless columns tuples fit;
  is = is ∙ sym (even_rows columns defaults tuples fit proper);
}
even_passes columns defaults (n ∷ ns) tuples rows none fit proper is = absurd (omega (arith, none))
