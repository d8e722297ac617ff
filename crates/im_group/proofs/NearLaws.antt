-- Groups that are found by their places, without a look-up.
use Rattle.std.proofs.Common.{◌≡◌, ℕ, zero, suc, ◌+◌, ◌<◌, Bool, true, false, cond, ◌&&◌, List, [], ◌∷◌, length, map, drop, get_or, Option, None, Some, is_some, refl, sym, ap, ◌∙◌, arith}
use Rattle.std.specs.Prelude.{slice_get}
use Rattle.std.specs.List.{AllByRecursion, IsDistinct}
use Rattle.std.specs.Cmp.Lexicographic.{pointwise}
use Rattle.std.specs.Option.{option_map_or}
use Rattle.std.proofs.Math.Seq.{drop-cons}
use Rattle.std.specs.Map.{lookup_key}
use Rattle.im_values.specs.declared.content.Content.{Content as Value}
use Rattle.im_syntax.specs.BoundFits.{value_at}
use Rattle.indexmap.specs.IndexMap.{set_value_at}
use Rattle.im_group.specs.Tallies.{Tallied}
use Rattle.im_group.specs.Partials.{key_of, is_key, keyed}
use Rattle.im_group.specs.inner.Steps.{tallies_at, placed, stands_at}
use Rattle.im_group.proofs.Agreement.{keys_tie, same_value}
use Rattle.im_group.proofs.GroupLemmas.{equal}
use Rattle.im_group.proofs.Held.{Agrees}
use Rattle.im_group.proofs.Orders.{key_same}
use Rattle.im_group.proofs.GroupSteps.{flipped}
use Rattle.im_group.proofs.Sorting.{true_is_not_false}

-- ---- the key of a row, value by value

-- one value more is compared
pub has-step : (columns : List ℕ) (row key : List Value) (i c : ℕ) (v : Value) → i < length columns → i < length key
    → c ≡ get_or columns i c → v ≡ get_or key i v
    → pointwise same_value (key_of (drop i columns) row) (drop i key)
    ≡ (same_value (value_at row c) v && pointwise same_value (key_of (drop (i + 1) columns) row) (drop (i + 1) key))
has-step columns row key i c v within inside is same =
    let next : suc i ≡ i + 1 = omega arith in
    (λ j. pointwise same_value (key_of (left j) row) (right j))
    ∙ ap (λ n. same_value (value_at row c) v && pointwise same_value (key_of (drop n columns) row) (drop n key)) next
  where
    left : drop i columns ≡ c ∷ drop (suc i) columns
    left = drop-cons columns i c within ∙ ap (λ d. d ∷ drop (suc i) columns) (sym is)

    right : drop i key ≡ v ∷ drop (suc i) key
    right = drop-cons key i v inside ∙ ap (λ d. d ∷ drop (suc i) key) (sym same)

and_false : (b : Bool) → (b && false) ≡ false
and_false true = refl
and_false false = refl

-- keys of unlike lengths are not the same
pub unlike : (xs ys : List Value) → (length xs ≡ length ys → ⊥) → pointwise same_value xs ys ≡ false
unlike [] [] differ = absurd (differ refl)
unlike [] (y ∷ ys) differ = refl
unlike (x ∷ xs) [] differ = refl
unlike (x ∷ xs) (y ∷ ys) differ = ap (λ b. same_value x y && b) (unlike xs ys (λ e. differ (ap suc e))) ∙ and_false (same_value x y)

-- ---- the group at a place

module _ {K : Type 0} (eq : K → K → Bool) (f : K → List Value) (agrees : Agrees eq f) (q : List Value) where
  -- no group before it has its key
  other : (es : List (K × Tallied)) (i : ℕ) (k : K) → AllByRecursion (λ y. eq k y ≡ false) (map (λ g. g.0) es)
      → stands_at (keyed f es) q i ≡ true → is_key q (f k) ≡ false
  other [] i k all here = absurd (true_is_not_false (sym here))
  other (e ∷ es) zero k all here =
      ap (λ p. is_key p (f k)) (key_same q (f e.0) (equal _ here)) ∙ (flipped (f e.0) (f k) ∙ (sym (agrees k e.0) ∙ all.0))
  other (e ∷ es) (suc i) k all here = other es i k all.1 here

  pub found-at : (es : List (K × Tallied)) (i : ℕ) (ts : Tallied) → IsDistinct eq (map (λ g. g.0) es) → stands_at (keyed f es) q i ≡ true
      → slice_get (map (λ g. g.1) es) i ≡ Some ts → tallies_at (keyed f es) q ≡ Some ts
  unfolding IsDistinct
  found-at [] i ts distinct here is = absurd (true_is_not_false (sym here))
  found-at (e ∷ es) zero ts distinct here is = ap (λ b. cond b (Some e.1) (tallies_at (keyed f es) q)) here ∙ is
  found-at (e ∷ es) (suc i) ts distinct here is =
      ap (λ b. cond b (Some e.1) (tallies_at (keyed f es) q)) (other es i e.0 distinct.0 here) ∙ found-at es i ts distinct.1 here is

  pub set-at : (es : List (K × Tallied)) (i : ℕ) (ts : Tallied) → IsDistinct eq (map (λ g. g.0) es) → stands_at (keyed f es) q i ≡ true
      → keyed f (set_value_at es i ts) ≡ placed (keyed f es) q ts
  unfolding IsDistinct
  set-at [] i ts distinct here = absurd (true_is_not_false (sym here))
  set-at (e ∷ es) zero ts distinct here = sym (ap (λ b. cond b ((f e.0, ts) ∷ keyed f es) ((f e.0, e.1) ∷ placed (keyed f es) q ts)) here)
  set-at (e ∷ es) (suc i) ts distinct here =
      ap (λ l. (f e.0, e.1) ∷ l) (set-at es i ts distinct.1 here)
      ∙ sym (ap (λ b. cond b ((f e.0, ts) ∷ keyed f es) ((f e.0, e.1) ∷ placed (keyed f es) q ts)) (other es i e.0 distinct.0 here))

  -- there is a group at the place
  pub within-at : (es : List (K × Tallied)) (i : ℕ) → stands_at (keyed f es) q i ≡ true → ◌≡◌ {A = Option Tallied} None (slice_get (map (λ g. g.1) es) i) → ⊥
  within-at [] i here none = true_is_not_false (sym here)
  within-at (e ∷ es) zero here none = cc
  within-at (e ∷ es) (suc i) here none = within-at es i here none

-- what stands at a place, as the entries say
pub stands-is : {K : Type 0} (f : K → List Value) (q : List Value) (es : List (K × Tallied)) (i : ℕ)
    → stands_at (keyed f es) q i ≡ option_map_or (λ g. is_key q (f g.0)) (slice_get es i) false
stands-is f q [] i = refl
stands-is f q (e ∷ es) zero = refl
stands-is f q (e ∷ es) (suc i) = stands-is f q es i

-- the first key that passes a test that agrees with a key
module _ {K : Type 0} (test : K → Bool) (q : List Value) (f : K → List Value) (agrees : (y : K) → test y ≡ is_key q (f y)) where
  by_key : (es : List (K × Tallied)) (i : ℕ) → stands_at (keyed f es) q i ≡ option_map_or (λ k. is_key q (f k)) (slice_get (map (λ g. g.0) es) i) false
  by_key [] i = refl
  by_key (e ∷ es) zero = refl
  by_key (e ∷ es) (suc i) = by_key es i

  passed : (es : List (K × Tallied)) → option_map_or test (lookup_key test es) true ≡ true
  passed [] = refl
  passed (e ∷ es) = by (test e.0) refl (passed es)
    where
      by : (b : Bool) → test e.0 ≡ b → option_map_or test (lookup_key test es) true ≡ true
          → option_map_or test (cond b (Some e.0) (lookup_key test es)) true ≡ true
      by true is more = is
      by false is more = more

  has : (es : List (K × Tallied)) (i : ℕ) → i < length es → (k : K) × (slice_get (map (λ g. g.0) es) i ≡ Some k)
  has [] i within = absurd (omega (arith, within))
  has (e ∷ es) zero within = (e.0, refl)
  has (e ∷ es) (suc i) within = has es i (omega (arith, within))

  pub passes-at : (es : List (K × Tallied)) (i : ℕ) → i < length es → lookup_key test es ≡ slice_get (map (λ g. g.0) es) i
      → stands_at (keyed f es) q i ≡ true
  passes-at es i within is =
      let key = has es i within in
      by_key es i
      ∙ (ap (λ (o : Option K). option_map_or (λ k. is_key q (f k)) o false) key.1
      ∙ (sym (agrees key.0) ∙ (ap (λ (o : Option K). option_map_or test o true) (sym (is ∙ key.1)) ∙ passed es)))

pub none_is : {X : Type 0} (r : Option X) → false ≡ is_some r → r ≡ None
none_is None e = refl
none_is (Some x) e = absurd cc

-- ---- a key of one value

and_true : (b : Bool) → (b && true) ≡ b
and_true true = refl
and_true false = refl

-- a key of one value is compared by that
pub only : (v : Value) (key : List Value) (k : Value) → length key ≡ 1 → k ≡ get_or key 0 k → same_value v k ≡ is_key (v ∷ []) key
only v [] k long is = cc
only v (x ∷ []) k long is = ap (same_value v) is ∙ (sym (and_true (same_value v x)) ∙ keys_tie (v ∷ []) (x ∷ []))
only v (x ∷ y ∷ key) k long is = cc
