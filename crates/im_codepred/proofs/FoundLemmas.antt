-- What is found among codes.
use Rattle.std.proofs.Common.{◌≡◌, ◌≢◌, take, drop, count_by, length-take, length-drop, ℤ, pos, neg_ℤ, ◌+ℤ◌, ◌*ℤ◌, ◌≤ℤ◌, ◌^◌, replicate, add-zero, zero-add, ℕ, zero, suc, ◌+◌, ◌-◌, ◌<◌, ◌≤◌, ◌||◌, max, nat_lt, Bool, true, false, cond, eqb, List, [], ◌∷◌, ◌++◌, length, get_or, fold, All, ⊎_elim, sym, refl, ap, subst, ◌∙◌, arith}
use Rattle.std.proofs.lemmas.Bool.{cases_lt, cases_eq, lt-ltb, le-ltb, ne_eqb}
use Rattle.std.proofs.lemmas.List.Elements.{All-head, All-tail}
use Rattle.std.specs.Ordering.{is_lt, ordering_reverse}
use Rattle.std.specs.declared.cmp.Ordering.TheVariants.{Less}
use Rattle.std.specs.Cmp.{tied_itself}
use Rattle.std.proofs.Math.IntN.{+ℤ_idr, suc_ℤ-*ℤ, zero-*ℤ, +ℤ_idl}
use Rattle.std.proofs.lemmas.Int.{ints}
use Rattle.std.proofs.lemmas.Map.Keys.{Less-from_sorted}
use Rattle.im_values.specs.Order.{order, is_null}
use Rattle.im_values.proofs.ForCallers.{order_total}
use Rattle.im_values.specs.declared.content.Content.{Content as Value}
use Rattle.im_values.specs.declared.content.Content.TheVariants.{Int, Text, Null}
use Rattle.im_codes.specs.Dictionary.{coded, values_at, present, IsDictionary}
use Rattle.std.proofs.lemmas.List.{length-replicate, drop-drop, drop_more, drop_all, take_at}
use Rattle.std.proofs.lemmas.List.Sums.{fold-append, sum_by-cons, count_by-le-length}
use Rattle.im_codes.specs.declared.run.Run.{Run}
use Rattle.im_codes.specs.Runs.{codes_from}
use Rattle.im_codepred.specs.inner.Walk.{AreTaken}
use Rattle.im_codepred.proofs.BitsLemmas.{chosen-split, chosen-none}
use Rattle.im_codepred.proofs.FormLemmas.{run-fits, left-next}
use Rattle.im_codepred.specs.Tallies.{IsWithin, chosen, number, lesser, greater}
use Rattle.im_codepred.specs.inner.Tallying.{FoundOf, taken, taken_for, nothing, lesser_code, number_at, taken_run, times_of, IsInside, TotalsOf, totals, totals_of, no_totals, with_value}

-- how many are found
pub record Grows (before after : FoundOf) (most : ℕ) : Type 0 where
  pub low : before.values ≤ after.values
  pub high : after.values ≤ before.values + most

grows-or : (b : Bool) (before after : FoundOf) → Grows before after 1 → Grows before (cond b before after) 1
grows-or true before after more = record { low = omega arith; high = omega arith }
grows-or false before after more = more

pub taken-grows : (dict : List Value) (found : FoundOf) (code : ℕ) → Grows found (taken dict found code) 1
taken-grows dict found code = grows-or (eqb code 0) found _ (record { low = omega arith; high = omega arith })

pub taken_for-grows : (ends : Bool) (dict : List Value) (found : FoundOf) (code : ℕ) → Grows found (taken_for ends dict found code) 1
taken_for-grows true dict found code = taken-grows dict found code
taken_for-grows false dict found code = grows-or (eqb code 0) found _ (record { low = omega arith; high = omega arith })

pub found-grows : (dict : List Value) (found : FoundOf) (codes : List ℕ) → Grows found (fold (taken dict) found codes) (length codes)
found-grows dict found [] = record { low = omega arith; high = omega arith }
found-grows dict found (code ∷ codes) =
    let here = taken-grows dict found code in
    let rest = found-grows dict (taken dict found code) codes in
    record { low = omega (arith, here.low, rest.low); high = omega (arith, here.high, rest.high) }

-- ---- as values

-- codes of a dictionary stand as their values do
order-codes : (dict : List Value) (i j : ℕ) → IsDictionary dict → i < length dict → j < length dict →
    is_lt (order (get_or dict i Null) (get_or dict j Null)) ≡ nat_lt (suc i) (suc j)
order-codes dict i j is low high =
    ⊎_elim (λ (h : i < j).
    ap is_lt (Less-from_sorted order dict i j Null is.sorted h high) ∙ sym (lt-ltb (suc i) (suc j) (omega (arith, h))))
    (λ (h : j ≤ i).
    ⊎_elim (λ (e : i ≡ j).
    ap (λ n. is_lt (order (get_or dict n Null) (get_or dict j Null))) e
    ∙ (ap is_lt (tied_itself order_total (get_or dict j Null)) ∙ sym (le-ltb (suc i) (suc j) (omega (arith, h)))))
    (λ (ne : i ≡ j → ⊥).
    let up : order (get_or dict j Null) (get_or dict i Null) ≡ Less = Less-from_sorted order dict j i Null is.sorted (omega (arith, ne, h)) low in
    ap is_lt (order_total.antisymm (get_or dict i Null) (get_or dict j Null) ∙ ap ordering_reverse up)
    ∙ sym (le-ltb (suc i) (suc j) (omega (arith, h))))
    (cases_eq i j))
    (cases_lt i j)

some-is : (v : Value) → v ≢ Null → is_null v ≡ false
some-is (Int n) some = refl
some-is (Text t) some = refl
some-is Null some = absurd (some refl)

lesser-Null : (v : Value) → lesser v Null ≡ v
lesser-Null (Int n) = refl
lesser-Null (Text t) = refl
lesser-Null Null = refl

Null-lesser : (v : Value) → lesser Null v ≡ v
Null-lesser (Int n) = refl
Null-lesser (Text t) = refl
Null-lesser Null = refl

Null-greater : (v : Value) → greater Null v ≡ v
Null-greater (Int n) = refl
Null-greater (Text t) = refl
Null-greater Null = refl

past-null : (k : ℕ) → eqb (suc k) 0 ≡ false
past-null k = ne_eqb (suc k) 0 (λ e. absurd (omega (arith, e)))

same-totals : (v v' : ℕ) (s s' : ℤ) (l l' g g' : Value) → v ≡ v' → s ≡ s' → l ≡ l' → g ≡ g' → let t : TotalsOf = record { values = v; sum = s; least = l; greatest = g } in
    t ≡ record { values = v'; sum = s'; least = l'; greatest = g' }
same-totals v v' s s' l l' g g' p q r u = rw (p, q, r, u) refl

-- the lesser code, and the greater, are those of the lesser value and the greater
lesser-codes : (dict : List Value) (a k : ℕ) → IsDictionary dict → a < length (coded dict) → k < length dict →
    get_or (coded dict) (lesser_code a (suc k)) Null ≡ lesser (get_or (coded dict) a Null) (get_or dict k Null)
lesser-codes dict zero k is low high = sym (Null-lesser (get_or dict k Null))
lesser-codes dict (suc j) k is low high =
    let same = order-codes dict k j is high (omega (arith, low)) in
    rw (past-null j, same) (by (nat_lt (suc k) (suc j)))
  where
    by : (b : Bool) → get_or (coded dict) (cond b (suc k) (suc j)) Null ≡ cond b (get_or dict k Null) (get_or dict j Null)
    by true = refl
    by false = refl

greater-codes : (dict : List Value) (a k : ℕ) → IsDictionary dict → a < length (coded dict) → k < length dict →
    get_or (coded dict) (max a (suc k)) Null ≡ greater (get_or (coded dict) a Null) (get_or dict k Null)
greater-codes dict zero k is low high =
    let most : max 0 (suc k) ≡ suc k = omega arith in
    rw most (sym (Null-greater (get_or dict k Null)))
greater-codes dict (suc j) k is low high =
    let left = some-is (get_or dict j Null) (is.some j Null (omega (arith, low))) in
    let right = some-is (get_or dict k Null) (is.some k Null high) in
    let same = order-codes dict j k is (omega (arith, low)) high in
    rw (right, left, same)
    (⊎_elim (λ (h : suc j < suc k).
    let most : max (suc j) (suc k) ≡ suc k = omega (arith, h) in
    rw (lt-ltb (suc j) (suc k) h, most) refl)
    (λ (h : suc k ≤ suc j).
    let most : max (suc j) (suc k) ≡ suc j = omega (arith, h) in
    rw (le-ltb (suc j) (suc k) h, most) refl)
    (cases_lt (suc j) (suc k)))

-- one code more is one value more
pub totals-taken : (dict : List Value) (found : FoundOf) (code : ℕ) → IsDictionary dict → IsInside dict found → code < length (coded dict) →
    totals_of dict (taken dict found code) ≡ with_value (totals_of dict found) (get_or (coded dict) code Null)
totals-taken dict found zero is inside low =
    same-totals _ _ _ _ _ _ _ _ (sym (add-zero found.values)) (sym (+ℤ_idr found.sum)) (sym (lesser-Null (get_or (coded dict) found.least Null))) refl
totals-taken dict found (suc k) is inside low =
    let within : k < length dict = omega (arith, low) in
    let some = some-is (get_or dict k Null) (is.some k Null within) in
    rw (past-null k)
    (same-totals _ _ _ _ _ _ _ _ (sym (ap (λ b. found.values + cond b 0 1) some)) refl (lesser-codes dict found.least k is inside.least within)
    (greater-codes dict found.greatest k is inside.greatest within))

chosen-below : (b : Bool) (x y n : ℕ) → x < n → y < n → cond b x y < n
chosen-below true x y n p q = p
chosen-below false x y n p q = q

pub inside-taken : (dict : List Value) (found : FoundOf) (code : ℕ) → IsInside dict found → code < length (coded dict) → IsInside dict (taken dict found code)
inside-taken dict found zero inside low = inside
inside-taken dict found (suc k) inside low =
    rw (past-null k) (record {
      least = chosen-below (eqb found.least 0 || nat_lt (suc k) found.least) (suc k) found.least (length (coded dict)) low inside.least;
      greatest = omega (arith, low, inside.greatest);
    })

-- what is found among codes is what their values come to
pub record Stands (dict : List Value) (found : FoundOf) (t : TotalsOf) : Type 0 where
  pub inside : IsInside dict found
  pub same : totals_of dict found ≡ t

pub found-stands : (dict : List Value) (found : FoundOf) (codes : List ℕ) → IsDictionary dict → IsInside dict found →
    All (λ code. code < length (coded dict)) codes → Stands dict (fold (taken dict) found codes) (fold with_value (totals_of dict found) (values_at (coded dict) codes))
found-stands dict found [] is inside low = record { inside = inside; same = refl }
found-stands dict found (code ∷ codes) is inside low =
    let here = All-head (λ c. c < length (coded dict)) code codes low in
    let rest =
    found-stands dict (taken dict found code) codes is (inside-taken dict found code inside here) (All-tail (λ c. c < length (coded dict)) code codes low) in
    record {
      inside = rest.inside;
      same = rest.same ∙ ap (λ t. fold with_value t (values_at (coded dict) codes)) (totals-taken dict found code is inside here);
    }

-- ---- what values come to

-- from a start on
totals-from : (t : TotalsOf) (vs : List Value) → fold with_value t vs ≡ record {
  values = t.values + length (present vs);
  sum = fold (λ sum v. sum +ℤ number v) t.sum vs;
  least = fold lesser t.least vs;
  greatest = fold greater t.greatest vs;
}
totals-from t [] = ap (λ n. record { values = n; sum = t.sum; least = t.least; greatest = t.greatest }) (sym (add-zero t.values))
totals-from t (Int n ∷ vs) = totals-from (with_value t (Int n)) vs ∙ same-totals _ _ _ _ _ _ _ _ (omega arith) refl refl refl
totals-from t (Text s ∷ vs) = totals-from (with_value t (Text s)) vs ∙ same-totals _ _ _ _ _ _ _ _ (omega arith) refl refl refl
totals-from t (Null ∷ vs) = totals-from (with_value t Null) vs ∙ same-totals _ _ _ _ _ _ _ _ (omega arith) refl refl refl

pub totals-are : (vs : List Value) → fold with_value no_totals vs ≡ totals vs
totals-are vs = totals-from no_totals vs ∙ same-totals _ _ _ _ _ _ _ _ (omega arith) refl refl refl

-- how many values are gathered
pub gathered-grows : (t : TotalsOf) (vs : List Value) → (t.values ≤ (fold with_value t vs).values) × ((fold with_value t vs).values ≤ t.values + length vs)
gathered-grows t [] = (omega arith, omega arith)
gathered-grows t (v ∷ vs) =
    let rest = gathered-grows (with_value t v) vs in
    let one = one-or-none (is_null v) in
    (omega (arith, rest.0), omega (arith, rest.1, one))
  where
    one-or-none : (b : Bool) → cond b 0 1 ≤ 1
    one-or-none true = omega arith
    one-or-none false = omega arith

-- ---- runs

-- a number so many times lies within that many of 64 bits
product-within : (count : ℕ) (n : ℤ) → neg_ℤ (pos (2 ^ 63)) ≤ℤ n → n ≤ℤ pos (2 ^ 63) → IsWithin count (pos count *ℤ n)
product-within zero n low high = rw (zero-*ℤ n) (record { low = omega (arith, ints); high = omega (arith, ints) })
product-within (suc count) n low high =
    let rest = product-within count n low high in
    let a = rest.low in
    let b = rest.high in
    rw (suc_ℤ-*ℤ (pos count) n) (record { low = omega (arith, ints); high = omega (arith, ints) })

pub times-are : (count : ℕ) (n z : ℤ) → z ≡ pos count *ℤ n → z ≡ times_of count n
unfolding times_of
times-are count n z is = is

pub times-within : (count : ℕ) (n z : ℤ) → z ≡ pos count *ℤ n → neg_ℤ (pos (2 ^ 63)) ≤ℤ n → n ≤ℤ pos (2 ^ 63) → IsWithin count z
times-within count n z is low high = rw is (product-within count n low high)

lesser-again : (a k : ℕ) → lesser_code (lesser_code a (suc k)) (suc k) ≡ lesser_code a (suc k)
lesser-again a k = by (eqb a 0 || nat_lt (suc k) a) refl
  where
    same : (b : Bool) → cond b (suc k) (suc k) ≡ suc k
    same true = refl
    same false = refl

    by : (b : Bool) → (eqb a 0 || nat_lt (suc k) a) ≡ b → lesser_code (cond b (suc k) a) (suc k) ≡ cond b (suc k) a
    by true e = same (eqb (suc k) 0 || nat_lt (suc k) (suc k))
    by false e = ap (λ b. cond b (suc k) a) e

pub same-found : (v v' : ℕ) (s s' : ℤ) (l l' g g' : ℕ) → v ≡ v' → s ≡ s' → l ≡ l' → g ≡ g' → let f : FoundOf = record { values = v; sum = s; least = l; greatest = g } in
    f ≡ record { values = v'; sum = s'; least = l'; greatest = g' }
same-found v v' s s' l l' g g' p q r u = rw (p, q, r, u) refl

one-times : (n : ℤ) → n ≡ times_of 1 n
unfolding times_of
one-times n = sym (suc_ℤ-*ℤ (pos 0) n ∙ (ap (λ z. z +ℤ n) (zero-*ℤ n) ∙ +ℤ_idl n))

pub once-more : (s n : ℤ) (count : ℕ) → (s +ℤ n) +ℤ times_of count n ≡ s +ℤ times_of (suc count) n
unfolding times_of
once-more s n count = rw (suc_ℤ-*ℤ (pos count) n) (omega (arith, ints))

-- a code from 1 on is taken
pub taken-some : (dict : List Value) (found : FoundOf) (k : ℕ) → taken dict found (suc k) ≡ record {
  values = found.values + 1;
  sum = found.sum +ℤ number_at dict (suc k);
  least = lesser_code found.least (suc k);
  greatest = max found.greatest (suc k);
}
taken-some dict found k = rw (past-null k) refl

run-from : (dict : List Value) (found : FoundOf) (k count : ℕ) → fold (taken dict) found (replicate (suc count) (suc k)) ≡ record {
  values = found.values + suc count;
  sum = found.sum +ℤ times_of (suc count) (number_at dict (suc k));
  least = lesser_code found.least (suc k);
  greatest = max found.greatest (suc k);
}
run-from dict found k zero = taken-some dict found k ∙ same-found _ _ _ _ _ _ _ _ refl (ap (λ n. found.sum +ℤ n) (one-times (number_at dict (suc k)))) refl refl
run-from dict found k (suc count) =
    let once : FoundOf = record {
      values = found.values + 1;
      sum = found.sum +ℤ number_at dict (suc k);
      least = lesser_code found.least (suc k);
      greatest = max found.greatest (suc k);
    } in
    ap (λ f. fold (taken dict) f (replicate (suc count) (suc k))) (taken-some dict found k)
    ∙ (run-from dict once k count
    ∙ same-found _ _ _ _ _ _ _ _ (omega arith) (once-more found.sum (number_at dict (suc k)) (suc count)) (lesser-again found.least k) (omega arith))

null-run : (dict : List Value) (found : FoundOf) (count : ℕ) → found ≡ fold (taken dict) found (replicate count 0)
null-run dict found zero = refl
null-run dict found (suc count) = null-run dict found count

pub run-taken : (dict : List Value) (found : FoundOf) (code count : ℕ) → taken_run dict found code count ≡ fold (taken dict) found (replicate count code)
run-taken dict found code zero = refl
run-taken dict found zero (suc count) = rw (lt-ltb 0 (suc count) (omega arith)) (null-run dict found count)
run-taken dict found (suc k) (suc count) = rw (lt-ltb 0 (suc count) (omega arith), lt-ltb 0 (suc k) (omega arith)) (sym (run-from dict found k count))

-- what is chosen of equal elements
chosen-same : {A : Type 0} (mask : List Bool) (n : ℕ) (x : A) → length mask ≡ n → chosen mask (replicate n x) ≡ replicate (count_by (λ (b : Bool). b) mask) x
chosen-same [] zero x same = refl
chosen-same [] (suc n) x same = refl
chosen-same (b ∷ mask) zero x same = absurd (omega (arith, same))
chosen-same (true ∷ mask) (suc n) x same =
    let rest = chosen-same mask n x (omega (arith, same)) in
    let one : 1 + count_by (λ (b : Bool). b) mask ≡ suc (count_by (λ (b : Bool). b) mask) = omega arith in
    rw (sum_by-cons (λ (b : Bool). cond b 1 0) true mask, one, rest) refl
chosen-same (false ∷ mask) (suc n) x same =
    let rest = chosen-same mask n x (omega (arith, same)) in
    rw (sum_by-cons (λ (b : Bool). cond b 1 0) false mask, zero-add (count_by (λ (b : Bool). b) mask), rest) refl

-- the run that is next
pub run-comes : (dict : List Value) (codes : List ℕ) (mask : List Bool) (run : Run) (runs : List Run) (begin count : ℕ) (found next : FoundOf) →
    length mask ≡ length codes → AreTaken dict codes mask (run ∷ runs) begin found →
    count ≡ count_by (λ (b : Bool). b) (take (run.end - begin) (drop begin mask)) → next ≡ taken_run dict found run.code count →
    AreTaken dict codes mask runs run.end next
run-comes dict codes mask run runs begin count found next same taken_so counted is =
    let fits = run-fits codes run runs begin taken_so.at in
    let long = run.end - begin in
    let end : begin + long ≡ run.end = omega (arith, fits.some) in
    let part = take long (drop begin mask) in
    let size : length part ≡ long = omega (arith, length-take long (drop begin mask), length-drop begin mask, same, fits.inside, fits.some) in
    let here : take long (drop begin codes) ≡ replicate long run.code =
    ap (take long) taken_so.at.left ∙ take_at (replicate long run.code) (codes_from run.end runs) long (length-replicate long run.code) in
    let these : chosen part (take long (drop begin codes)) ≡ replicate count run.code =
    ap (chosen part) here ∙ (chosen-same part long run.code size ∙ ap (λ n. replicate n run.code) (sym counted)) in
    let behind : chosen (drop long (drop begin mask)) (drop long (drop begin codes)) ≡ chosen (drop run.end mask) (drop run.end codes) =
    rw (drop-drop long begin mask, drop-drop long begin codes, end) refl in
    let all : chosen (drop begin mask) (drop begin codes) ≡ replicate count run.code ++ chosen (drop run.end mask) (drop run.end codes) =
    chosen-split long (drop begin mask) (drop begin codes)
    ∙ (ap (λ l. l ++ chosen (drop long (drop begin mask)) (drop long (drop begin codes))) these ∙ ap (λ l. replicate count run.code ++ l) behind) in
    let now : next ≡ fold (taken dict) found (replicate count run.code) = is ∙ run-taken dict found run.code count in
    let most : count ≤ long = omega (arith, counted, count_by-le-length (λ (b : Bool). b) part, size) in
    let grows = found-grows dict found (replicate count run.code) in
    record {
      at = left-next codes run runs begin taken_so.at;
      few = omega (arith, ap (λ f. f.values) now, grows.high, length-replicate count run.code, most, taken_so.few, end);
      comes = ap (λ f. fold (taken dict) f (chosen (drop run.end mask) (drop run.end codes))) now
          ∙ (sym (fold-append (taken dict) found (replicate count run.code) (chosen (drop run.end mask) (drop run.end codes)))
          ∙ (ap (fold (taken dict) found) (sym all) ∙ taken_so.comes));
    }

-- the next run of a list
pub runs-next : (dict : List Value) (codes : List ℕ) (mask : List Bool) (runs : List Run) (i begin : ℕ) (d : Run) (found : FoundOf) → i < length runs →
    AreTaken dict codes mask (drop i runs) begin found → AreTaken dict codes mask (get_or runs i d ∷ drop (i + 1) runs) begin found
runs-next dict codes mask runs i begin d found inside left =
    let P : List Run → Type 0 = λ rs. AreTaken dict codes mask rs begin found in
    subst P (drop_more runs i d inside) left

-- no run is left
pub runs-end : (dict : List Value) (codes : List ℕ) (mask : List Bool) (runs : List Run) (i begin : ℕ) (found : FoundOf) → length runs ≤ i →
    AreTaken dict codes mask (drop i runs) begin found → found ≡ fold (taken dict) nothing (chosen mask codes)
runs-end dict codes mask runs i begin found over left =
    let none : drop begin codes ≡ [] = left.at.left ∙ ap (codes_from begin) (drop_all i runs over) in
    sym (ap (fold (taken dict) found) (ap (chosen (drop begin mask)) none ∙ chosen-none (drop begin mask))) ∙ left.comes
