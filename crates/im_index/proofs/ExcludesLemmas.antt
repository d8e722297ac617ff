-- What bounds exclude is not kept.
use Rattle.std.proofs.Common.{◌≡◌, ◌≢◌, ℕ, zero, suc, ◌+◌, ◌<◌, Bool, true, false, ◌&&◌, ◌||◌, List, [], ◌∷◌, ◌⊎◌, inl, inr, length, map, get_or, Contains, count_by, ⊎_elim, refl, sym, ap, ◌∙◌, arith}
use Rattle.std.specs.Prelude.{if◌then◌else◌}
use Rattle.std.specs.List.{list_any}
use Rattle.std.proofs.lemmas.Bool.{eqb-true}
use Rattle.std.proofs.lemmas.List.Sums.{sum_by-cons}
use Rattle.im_values.specs.declared.comparison.Cmp.{Cmp}
use Rattle.im_values.specs.declared.comparison.Cmp.TheVariants.{Eq, Le, Ge}
use Rattle.im_values.specs.declared.truth.Truth.{Truth}
use Rattle.im_values.specs.declared.truth.Truth.TheVariants.{Yes, No, Unknown}
use Rattle.im_values.specs.declared.content.Content.{Content as Value}
use Rattle.im_values.specs.Order.{order, is_null, admits, compare}
use Rattle.im_values.specs.Truth as truth
use Rattle.im_syntax.specs.Condition.{TermOf, negation, nested, comparison, null_test, between, within, ConjOf, no_term, and_term, no_conj, or_conj, terms_of}
use Rattle.im_syntax.specs.BoundFits.{value_at}
use Rattle.im_eval.specs.Holds.{with_not, null_truth, between_truth, within_truth, truth_of_test, truth_of_tests}
use Rattle.im_index.specs.declared.bounds.Bounds.{Bounds}
use Rattle.im_index.specs.Bounds.{bounds_of}
use Rattle.im_index.specs.Excludes.{excludes_comparison, excludes_null_test, excludes_between, excludes_within, by_column, excludes_term, StandsIn, ExcludedRowsAreNotKept}
use Rattle.im_index.proofs.OrderLemmas.{ends-excluded}
use Rattle.im_index.proofs.BoundsLemmas.{has-ends}

-- ---- truths

and-yes : (a b : Truth) → truth.and a b ≡ Yes → (a ≡ Yes) × (b ≡ Yes)
and-yes Yes b e = (refl, e)
and-yes No b e = absurd cc
and-yes Unknown Yes e = absurd cc
and-yes Unknown No e = absurd cc
and-yes Unknown Unknown e = absurd cc

or-yes : (a b : Truth) → truth.or a b ≡ Yes → (a ≡ Yes) ⊎ (b ≡ Yes)
or-yes Yes b e = inl refl
or-yes No b e = inr e
or-yes Unknown Yes e = inr refl
or-yes Unknown No e = absurd cc
or-yes Unknown Unknown e = absurd cc

or-true : (a b : Bool) → (a || b) ≡ true → (a ≡ true) ⊎ (b ≡ true)
or-true true b e = inl refl
or-true false b e = inr e

and-true : (a b : Bool) → (a && b) ≡ true → (a ≡ true) × (b ≡ true)
and-true true b e = (refl, e)
and-true false b e = absurd cc

-- ---- one column

-- a comparison is Yes of values that are not NULL and stand so
compare-yes : (x v null : Bool) (admitted : Bool) → (if x || v then Unknown else (if admitted then Yes else No)) ≡ Yes →
    (x ≡ false) × (v ≡ false) × (admitted ≡ true)
compare-yes true v null admitted e = absurd cc
compare-yes false true null admitted e = absurd cc
compare-yes false false null true e = (refl, refl, refl)
compare-yes false false null false e = absurd cc

comparison-excluded : (values : List Value) (cmp : Cmp) (v x : Value) → Contains values x → excludes_comparison (bounds_of values) cmp v ≡ true →
    compare x cmp v ≢ Yes
comparison-excluded values cmp v x held out kept =
    let found = compare-yes (is_null x) (is_null v) false (admits cmp (order x v)) kept in
    let ends = has-ends values x found.0 held in
    let by_ends = rw (found.1, ends.first, ends.last) at out in
    let not_so = ends-excluded cmp ends.least ends.greatest v x ends.within by_ends in
    let so = found.2 in cc

no-nulls : (values : List Value) (x : Value) → Contains values x → count_by is_null values ≡ 0 → is_null x ≡ false
no-nulls [] x held none = absurd (omega (arith, held.1))
no-nulls (y ∷ ys) x held none = by (no-nulls ys x) (is_null y) refl held (sym (sum_by-cons (λ v. if is_null v then 1 else 0) y ys) ∙ none)
  where
    by : (Contains ys x → count_by is_null ys ≡ 0 → is_null x ≡ false) → (b : Bool) → is_null y ≡ b → Contains (y ∷ ys) x →
        (if b then 1 else 0) + count_by is_null ys ≡ 0 → is_null x ≡ false
    by rest true e h n = absurd (omega (arith, n))
    by rest false e (zero, inside, is) n = ap is_null (sym is) ∙ e
    by rest false e (suc k, inside, is) n = rest (k, omega (arith, inside), is) (omega (arith, n))

null_test-excluded : (values : List Value) (negated : Bool) (x : Value) → Contains values x → excludes_null_test (bounds_of values) negated ≡ true →
    with_not negated (null_truth x) ≢ Yes
null_test-excluded values false x held out kept =
    let some = no-nulls values x held (eqb-true (count_by is_null values) 0 out) in
    let no : null_truth x ≡ No = rw some refl in cc
null_test-excluded values true x held out kept = by (is_null x) refl kept
  where
    by : (b : Bool) → is_null x ≡ b → truth.negated (if b then Yes else No) ≡ Yes → ⊥
    by true e k = cc
    by false e k =
        let ends = has-ends values x e held in
        let none = rw ends.first at out in cc

between-excluded : (values : List Value) (low high x : Value) → Contains values x → excludes_between (bounds_of values) low high ≡ true →
    between_truth x low high ≢ Yes
between-excluded values low high x held out kept =
    let are = and-yes (compare x Ge low) (compare x Le high) kept in
    ⊎_elim (λ (h : excludes_comparison (bounds_of values) Ge low ≡ true). comparison-excluded values Ge low x held h are.0)
    (λ (h : excludes_comparison (bounds_of values) Le high ≡ true). comparison-excluded values Le high x held h are.1)
    (or-true (excludes_comparison (bounds_of values) Ge low) (excludes_comparison (bounds_of values) Le high) out)

within-excluded : (values choices : List Value) (x : Value) → Contains values x → excludes_within (bounds_of values) choices ≡ true →
    within_truth x choices ≢ Yes
within-excluded values [] x held out kept = cc
within-excluded values (v ∷ choices) x held out kept =
    let outs = and-true (excludes_comparison (bounds_of values) Eq v) (excludes_within (bounds_of values) choices) out in
    ⊎_elim (λ (h : compare x Eq v ≡ Yes). comparison-excluded values Eq v x held outs.0 h)
    (λ (h : within_truth x choices ≡ Yes). within-excluded values choices x held outs.1 h)
    (or-yes (compare x Eq v) (within_truth x choices) kept)

-- ---- columns

-- what is excluded by a column is excluded by the bounds of its values
pub record IsExcludedBy (test : Bounds → Bool) (columns : List (List Value)) (column : ℕ) : Type 0 where
  pub inside : column < length columns
  pub out : test (bounds_of (get_or columns column [])) ≡ true

by_column-excluded : (test : Bounds → Bool) (columns : List (List Value)) (column : ℕ) → by_column test (map bounds_of columns) column ≡ true →
    IsExcludedBy test columns column
by_column-excluded test [] column e = absurd cc
by_column-excluded test (values ∷ columns) zero e = record { inside = omega arith; out = e }
by_column-excluded test (values ∷ columns) (suc column) e =
    let rest = by_column-excluded test columns column e in
    record { inside = omega (arith, rest.inside); out = rest.out }

term-excluded : (columns : List (List Value)) (row : List Value) (t : TermOf ℕ Value) → StandsIn columns row →
    excludes_term (map bounds_of columns) t ≡ true → truth_of_test t row ≢ Yes
term-excluded columns row (negation t) stands e kept = cc
term-excluded columns row (nested f) stands e kept = cc
term-excluded columns row (comparison column cmp v) stands e kept =
    let by = by_column-excluded (λ bounds. excludes_comparison bounds cmp v) columns column e in
    comparison-excluded (get_or columns column []) cmp v (value_at row column) (stands column by.inside) by.out kept
term-excluded columns row (null_test column negated) stands e kept =
    let by = by_column-excluded (λ bounds. excludes_null_test bounds negated) columns column e in
    null_test-excluded (get_or columns column []) negated (value_at row column) (stands column by.inside) by.out kept
term-excluded columns row (between column true low high) stands e kept = cc
term-excluded columns row (between column false low high) stands e kept =
    let by = by_column-excluded (λ bounds. excludes_between bounds low high) columns column e in
    between-excluded (get_or columns column []) low high (value_at row column) (stands column by.inside) by.out kept
term-excluded columns row (within column true values) stands e kept = cc
term-excluded columns row (within column false values) stands e kept =
    let by = by_column-excluded (λ bounds. excludes_within bounds values) columns column e in
    within-excluded (get_or columns column []) values (value_at row column) (stands column by.inside) by.out kept

conjunction-excluded : (columns : List (List Value)) (row : List Value) (ts : ConjOf ℕ Value) → StandsIn columns row →
    list_any (excludes_term (map bounds_of columns)) (terms_of ts) ≡ true → truth_of_tests ts row ≢ Yes
conjunction-excluded columns row no_term stands e kept = cc
conjunction-excluded columns row (and_term t ts) stands e kept =
    let are = and-yes (truth_of_test t row) (truth_of_tests ts row) kept in
    ⊎_elim (λ (h : excludes_term (map bounds_of columns) t ≡ true). term-excluded columns row t stands h are.0)
    (λ (h : list_any (excludes_term (map bounds_of columns)) (terms_of ts) ≡ true). conjunction-excluded columns row ts stands h are.1)
    (or-true (excludes_term (map bounds_of columns) t) (list_any (excludes_term (map bounds_of columns)) (terms_of ts)) e)

-- a condition that the bounds of columns exclude keeps none of their rows
pub excluded-not-kept : ExcludedRowsAreNotKept
excluded-not-kept no_conj columns row e stands kept = cc
excluded-not-kept (or_conj ts no_conj) columns row e stands kept =
    ⊎_elim (λ (h : truth_of_tests ts row ≡ Yes). conjunction-excluded columns row ts stands e h) (λ (h : No ≡ Yes). cc)
    (or-yes (truth_of_tests ts row) No kept)
excluded-not-kept (or_conj ts (or_conj more rest)) columns row e stands kept = cc
