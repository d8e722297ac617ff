-- Widths, counts of runs, and the least of three sizes.
use Rattle.std.proofs.Common.{◌≡◌, ◌≢◌, ℕ, zero, suc, ◌+◌, ◌-◌, ◌*◌, ◌^◌, ◌<◌, ◌≤◌, ◌==◌, cond, min, List, [], ◌∷◌, ◌++◌, length, take, get_or, sum_by, All, ⊎_elim, sym, refl, ap, ◌∙◌, arith, lt-ltb, le-ltb, eq-eqb, ne_eqb}
use Rattle.std.specs.Int.Count.{count_leading_zeros}
use Rattle.std.proofs.Math.Nat.{pow-suc}
use Rattle.std.proofs.Math.Pow.{pow_mono}
use Rattle.std.proofs.lemmas.Nat.{leading_length}
use Rattle.std.proofs.lemmas.Bool.{cases_lt, cases_eq}
use Rattle.std.proofs.lemmas.Bool.Decides.{nat_tests}
use Rattle.std.proofs.lemmas.List.{take_more}
use Rattle.std.proofs.lemmas.List.Elements.{All-contains, Contains-get_or}
use Rattle.im_values.specs.declared.content.Content.{Content as Value}
use Rattle.im_values.specs.declared.content.Content.TheVariants.{Null}
use Rattle.im_values.specs.Sizes.{Plain, Coded, Runs, value_bytes, words_for, width_from, width_for, dictionary, run_count, plain_bytes, coded_bytes, runs_bytes, least_shape, shape_of, column_bytes}
use Rattle.std.proofs.lemmas.Map.Keys.{sorted_from_all_adjacent}
use Rattle.im_values.specs.Order.{order}
use Rattle.im_values.proofs.ForCallers.{order_total}
use Rattle.im_codes.specs.Dictionary.{AreCodesOf, IsDictionary, IsDictionaryOf}
use Rattle.im_codes.specs.Runs as codes
use Rattle.im_codes.proofs.ForCallers.{dictionary-held, dictionary-is, is-dictionary, dictionary-rising, run_count-codes, length-codes}
use Rattle.im_column.specs.Forms.{IsShort}
use Rattle.im_column.specs.inner.Sized.{AreRising, AreSizes, Follows}

-- the first width whose codes reach the greatest
pub width_from-is : (more k d m : ℕ) → k ≤ m → m ≤ k + more → d < 2 ^ m → ((j : ℕ) → j < m → 2 ^ j ≤ d) → width_from more k d ≡ m
unfolding width_from
width_from-is zero k d m low high reach below = omega arith
width_from-is (suc more) k d m low high reach below =
    ⊎_elim (λ (same : k ≡ m). let here : d < 2 ^ k = rw same reach in
    ap (λ b. cond b k (width_from more (k + 1) d)) (lt-ltb d (2 ^ k) here) ∙ same)
    (λ (apart : k ≡ m → ⊥). ap (λ b. cond b k (width_from more (k + 1) d)) (le-ltb d (2 ^ k) (below k (omega arith)))
    ∙ width_from-is more (k + 1) d m (omega arith) (omega arith) reach below)
    (cases_eq k m)

-- what is left of 32 bits without the leading zeros
pub width-is : (d r : ℕ) → d < 4294967296 → r + count_leading_zeros 32 d ≡ 32 → (width_for d ≡ r) × (d < 2 ^ r)
width-is d r small whole =
    let found = leading_length 32 d small in
    let m = found.0 in
    let same : m ≡ r = omega (arith, found.1) in
    let below : (j : ℕ) → j < m → 2 ^ j ≤ d = λ j h.
    let up = pow_mono {i = suc j} {j = m} h in omega (arith, found.3, up, pow-suc 2 j) in
    (width_from-is 32 0 d m (omega arith) (omega (arith, found.1)) found.2 below ∙ same, rw (← same) found.2)

-- the code before a place
last_or : ℕ → List ℕ → ℕ
last_or before [] = before
last_or before (x ∷ xs) = last_or x xs

-- one code more begins a run, or does not
run_count_after-push : (before x : ℕ) (xs : List ℕ) →
    codes.run_count_after before (xs ++ x ∷ []) ≡ codes.run_count_after before xs + cond (x == last_or before xs) 0 1
unfolding last_or
run_count_after-push before x [] = omega arith
run_count_after-push before x (y ∷ xs) = omega (arith, run_count_after-push y x xs)

last-take : (before : ℕ) (xs : List ℕ) (i : ℕ) → i < length xs → last_or before (take (suc i) xs) ≡ get_or xs i 0
unfolding last_or
last-take before [] i inside = absurd (omega (arith, inside))
last-take before (x ∷ xs) zero inside = refl
last-take before (x ∷ xs) (suc i) inside = last-take x xs i (omega (arith, inside))

run_count-more : (xs : List ℕ) (i : ℕ) → suc i < length xs →
    codes.run_count (take (suc (suc i)) xs) ≡ codes.run_count (take (suc i) xs) + cond (get_or xs (suc i) 0 == get_or xs i 0) 0 1
run_count-more [] i inside = absurd (omega (arith, inside))
run_count-more (x ∷ xs) zero inside = rw (take_more xs 0 0 (omega (arith, inside))) (omega arith)
run_count-more (x ∷ xs) (suc i) inside =
    let there : suc i < length xs = omega (arith, inside) in
    let count : suc (suc i) ≡ suc i + 1 = omega arith in
    let more : take (suc (suc i)) xs ≡ take (suc i) xs ++ get_or xs (suc i) 0 ∷ [] = ap (λ n. take n xs) count ∙ take_more xs (suc i) 0 there in
    let pushed = run_count_after-push x (get_or xs (suc i) 0) (take (suc i) xs) in
    let last : last_or x (take (suc i) xs) ≡ get_or xs i 0 = last-take x xs i (omega arith) in
    rw (more, pushed, last) (omega arith)

run_count-at : (xs : List ℕ) (i : ℕ) → 0 < i → i < length xs →
    codes.run_count (take (i + 1) xs) ≡ codes.run_count (take i xs) + cond (get_or xs i 0 == get_or xs (i - 1) 0) 0 1
run_count-at xs zero some inside = absurd (omega (arith, some))
run_count-at xs (suc i) some inside =
    let less : suc i - 1 ≡ i = omega arith in
    let count : suc i + 1 ≡ suc (suc i) = omega arith in
    ap (λ n. codes.run_count (take n xs)) count
    ∙ (run_count-more xs i inside ∙ ap (λ n. codes.run_count (take (suc i) xs) + cond (get_or xs (suc i) 0 == get_or xs n 0) 0 1) (sym less))

-- a code that is the one before begins no run, and another begins one
pub run_same : (xs : List ℕ) (i : ℕ) → 0 < i → i < length xs → get_or xs i 0 ≡ get_or xs (i - 1) 0 →
    codes.run_count (take (i + 1) xs) ≡ codes.run_count (take i xs) + 0
run_same xs i some inside same =
    run_count-at xs i some inside
    ∙ ap (λ b. codes.run_count (take i xs) + cond b 0 1) (eq-eqb (get_or xs i 0) (get_or xs (i - 1) 0) same)

pub run_other : (xs : List ℕ) (i : ℕ) → 0 < i → i < length xs → get_or xs i 0 ≢ get_or xs (i - 1) 0 →
    codes.run_count (take (i + 1) xs) ≡ codes.run_count (take i xs) + 1
run_other xs i some inside other =
    run_count-at xs i some inside
    ∙ ap (λ b. codes.run_count (take i xs) + cond b 0 1) (ne_eqb (get_or xs i 0) (get_or xs (i - 1) 0) other)

-- sizes of a dictionary and codes are those of the values
coded-sized : (values dict : List Value) (list : List ℕ) (size : ℕ) → dict ≡ dictionary values → AreCodesOf values dict list →
    size ≡ sum_by value_bytes dict + 8 * words_for (length list) (width_for (length dict)) → size ≡ coded_bytes values
unfolding coded_bytes
coded-sized values dict list size is stand e =
    e ∙ (ap (λ n. sum_by value_bytes dict + 8 * words_for n (width_for (length dict))) (length-codes values dict list stand)
    ∙ ap (λ l. sum_by value_bytes l + 8 * words_for (length values) (width_for (length l))) is)

runs-sized : (values dict : List Value) (list : List ℕ) (size : ℕ) → dict ≡ dictionary values → IsDictionary dict → AreCodesOf values dict list →
    size ≡ sum_by value_bytes dict + 8 * codes.run_count list → size ≡ runs_bytes values
unfolding runs_bytes
runs-sized values dict list size is own stand e =
    e ∙ (ap (λ n. sum_by value_bytes dict + 8 * n) (run_count-codes values dict list own stand)
    ∙ ap (λ l. sum_by value_bytes l + 8 * run_count values) is)

pub are-sizes : (values dict : List Value) (list : List ℕ) (p c r : ℕ) → p ≡ plain_bytes values → IsDictionaryOf values dict → AreCodesOf values dict list →
    c ≡ sum_by value_bytes dict + 8 * words_for (length list) (width_for (length dict)) → r ≡ sum_by value_bytes dict + 8 * codes.run_count list →
    AreSizes values p c r
are-sizes values dict list p c r ep set stand ec er =
    let is = dictionary-is values dict set in
    record {
      plain = ep;
      coded = coded-sized values dict list c is stand ec;
      runs = runs-sized values dict list r is (is-dictionary values dict set) stand er;
    }

-- the least of the three
shape-plain : (p c r : ℕ) → p ≤ c → p ≤ r → least_shape p c r ≡ Plain
shape-plain p c r h g = grind (arith, nat_tests)

shape-coded : (p c r : ℕ) → min c r < p → c ≤ r → least_shape p c r ≡ Coded
shape-coded p c r h g = grind (arith, nat_tests)

shape-runs : (p c r : ℕ) → min c r < p → r < c → least_shape p c r ≡ Runs
shape-runs p c r h g = grind (arith, nat_tests)

pub least-plain : (values : List Value) (p c r : ℕ) → AreSizes values p c r → p ≤ min c r → (shape_of values ≡ Plain) × (p ≡ column_bytes values)
least-plain values p c r are least =
    (rw (← are.plain, ← are.coded, ← are.runs) (shape-plain p c r (omega arith) (omega arith)), rw (← are.plain, ← are.coded, ← are.runs) (omega arith))

pub least-coded : (values : List Value) (p c r : ℕ) → AreSizes values p c r → min c r < p → c ≤ r → (shape_of values ≡ Coded) × (c ≡ column_bytes values)
least-coded values p c r are less least =
    (rw (← are.plain, ← are.coded, ← are.runs) (shape-coded p c r less least), rw (← are.plain, ← are.coded, ← are.runs) (omega arith))

pub least-runs : (values : List Value) (p c r : ℕ) → AreSizes values p c r → min c r < p → r < c → (shape_of values ≡ Runs) × (r ≡ column_bytes values)
least-runs values p c r are less least =
    (rw (← are.plain, ← are.coded, ← are.runs) (shape-runs p c r less least), rw (← are.plain, ← are.coded, ← are.runs) (omega arith))

-- values that rise take the least bytes as they are
pub rising-plain : (values : List Value) (plain : ℕ) → AreRising values → plain ≡ plain_bytes values →
    (shape_of values ≡ Plain) × (plain ≡ column_bytes values)
unfolding plain_bytes coded_bytes runs_bytes
rising-plain values plain rising is =
    let own : dictionary values ≡ values = dictionary-rising values rising.sorted rising.some in
    let bytes : sum_by value_bytes (dictionary values) ≡ sum_by value_bytes values = ap (λ l. sum_by value_bytes l) own in
    least-plain values plain (coded_bytes values) (runs_bytes values) (record { plain = is; coded = refl; runs = refl }) (omega (arith, bytes, is))

-- the values of a dictionary are short where those of its list are
pub short-dictionary : (values dict : List Value) → IsDictionaryOf values dict → All IsShort values → All IsShort dict
short-dictionary values dict set short k d inside =
    All-contains IsShort values (get_or dict k d) short (dictionary-held values dict (get_or dict k d) set (Contains-get_or dict k d inside))

-- values that follow each other rise
pub rising-more : (values : List Value) (i : ℕ) → Follows values i → ((k : ℕ) → k < i → Follows values k) → (k : ℕ) → k < i + 1 → Follows values k
rising-more values i here before k below =
    ⊎_elim (λ (under : k < i). before k under)
    (λ (at : i ≤ k). let e : i ≡ k = omega arith in rw (← e) here) (cases_lt k i)

pub rising-all : (values : List Value) (i : ℕ) → length values ≤ i → ((k : ℕ) → k < i → Follows values k) → AreRising values
rising-all values i past before = record {
  sorted = sorted_from_all_adjacent order_total values Null (λ k inside.
      let e : k + 1 - 1 ≡ k = omega arith in
      ap (λ n. order (get_or values n Null) (get_or values (k + 1) Null)) (sym e) ∙ (before (k + 1) (omega arith)).above (omega arith) Null);
  some = λ k d inside. (before k (omega arith)).some d;
}
