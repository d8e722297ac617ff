-- Counts of codes.
use Rattle.std.proofs.Common.{◌≡◌, ◌≢◌, ℕ, zero, suc, ◌+◌, ◌<◌, ◌≤◌, Bool, false, cond, eqb, List, [], ◌∷◌, length, get_or, fold, count_by, replicate, All, ⊎_elim, sym, refl, ap, ◌∙◌, arith, zero-add, eq-eqb, take, drop, length-take, length-drop, get_or-take, get_or-drop}
use Rattle.std.specs.Cmp.{tied_itself}
use Rattle.std.specs.Ordering.{is_eq, ordering_reverse}
use Rattle.std.specs.declared.cmp.Ordering.TheVariants.{Less}
use Rattle.std.proofs.lemmas.Bool.{cases_lt, cases_eq, ne_eqb}
use Rattle.std.proofs.lemmas.List.{get_or-set_same, get_or-set_other, set_past, get_or_past, get_or-replicate, length-replicate}
use Rattle.std.proofs.lemmas.List.Elements.{All-head, All-tail}
use Rattle.std.proofs.lemmas.List.Sums.{sum_by-cons}
use Rattle.std.proofs.lemmas.Map.Keys.{Less-from_sorted}
use Rattle.std.proofs.Math.ListN.{length-set}
use Rattle.im_values.specs.declared.content.Content.{Content as Value}
use Rattle.im_values.specs.declared.content.Content.TheVariants.{Int, Text, Null}
use Rattle.im_values.specs.Order.{order}
use Rattle.im_values.proofs.ForCallers.{order_total}
use Rattle.im_codes.specs.Dictionary.{coded, values_at, IsDictionary, StandAt}
use Rattle.im_codepred.specs.Tallies.{chosen, count_of, AreCounts}
use Rattle.im_codepred.proofs.TallyLemmas.{chosen-values, chosen-all}
use Rattle.im_codepred.specs.inner.Tallying.{one_more}

-- a count grows by at most one
more-at : (counts : List ℕ) (x code : ℕ) → (get_or counts code 0 ≤ get_or (one_more counts x) code 0) × (get_or (one_more counts x) code 0 ≤ get_or counts code 0 + 1)
more-at counts x code =
    ⊎_elim (λ (h : code ≡ x).
    ⊎_elim (λ (inside : x < length counts).
    let same = get_or-set_same counts x (get_or counts x 0 + 1) 0 inside in
    rw (h, same) (omega arith, omega arith))
    (λ (past : length counts ≤ x). rw (set_past counts x (get_or counts x 0 + 1) past) (omega arith, omega arith))
    (cases_lt x (length counts)))
    (λ (h : code ≢ x). rw (get_or-set_other counts x code (get_or counts x 0 + 1) 0 h) (omega arith, omega arith))
    (cases_eq code x)

pub counts-grow : (counts codes : List ℕ) (code : ℕ) →
    (get_or counts code 0 ≤ get_or (fold one_more counts codes) code 0) × (get_or (fold one_more counts codes) code 0 ≤ get_or counts code 0 + length codes)
counts-grow counts [] code = (omega arith, omega arith)
counts-grow counts (x ∷ codes) code =
    let here = more-at counts x code in
    let rest = counts-grow (one_more counts x) codes code in
    (omega (arith, here.0, rest.0), omega (arith, here.1, rest.1))

pub length-counts : (counts codes : List ℕ) → length (fold one_more counts codes) ≡ length counts
length-counts counts [] = refl
length-counts counts (x ∷ codes) = length-counts (one_more counts x) codes ∙ length-set counts x (get_or counts x 0 + 1)

-- a count is the number of codes that are it
more-is : (counts : List ℕ) (x code : ℕ) → code < length counts → get_or (one_more counts x) code 0 ≡ get_or counts code 0 + cond (eqb x code) 1 0
more-is counts x code inside =
    ⊎_elim (λ (h : code ≡ x).
    let within : x < length counts = omega (arith, inside, h) in
    rw (h, eq-eqb x x refl, get_or-set_same counts x (get_or counts x 0 + 1) 0 within) refl)
    (λ (h : code ≢ x). rw (get_or-set_other counts x code (get_or counts x 0 + 1) 0 h, ne_eqb x code (λ e. h (sym e))) (omega arith))
    (cases_eq code x)

counts-from : (counts codes : List ℕ) (code : ℕ) → code < length counts →
    get_or (fold one_more counts codes) code 0 ≡ get_or counts code 0 + count_by (λ x. eqb x code) codes
counts-from counts [] code inside = omega arith
counts-from counts (x ∷ codes) code inside =
    let long = length-set counts x (get_or counts x 0 + 1) in
    let rest = counts-from (one_more counts x) codes code (omega (arith, inside, long)) in
    let one = sum_by-cons (λ x. cond (eqb x code) 1 0) x codes in
    omega (arith, rest, more-is counts x code inside, one)

-- the values of two codes are one where the codes are
pub same-codes : (dict : List Value) (x y : ℕ) → IsDictionary dict → x < length (coded dict) → y < length (coded dict) →
    eqb x y ≡ is_eq (order (get_or (coded dict) x Null) (get_or (coded dict) y Null))
same-codes dict zero zero is low high = refl
same-codes dict zero (suc j) is low high = ne_eqb 0 (suc j) (λ e. absurd (omega (arith, e))) ∙ none-left (get_or dict j Null) (is.some j Null (omega (arith, high)))
  where
    none-left : (v : Value) → v ≢ Null → false ≡ is_eq (order Null v)
    none-left (Int n) some = refl
    none-left (Text t) some = refl
    none-left Null some = absurd (some refl)
same-codes dict (suc i) zero is low high = ne_eqb (suc i) 0 (λ e. absurd (omega (arith, e))) ∙ none-right (get_or dict i Null) (is.some i Null (omega (arith, low)))
  where
    none-right : (v : Value) → v ≢ Null → false ≡ is_eq (order v Null)
    none-right (Int n) some = refl
    none-right (Text t) some = refl
    none-right Null some = absurd (some refl)
same-codes dict (suc i) (suc j) is low high =
    ⊎_elim (λ (e : i ≡ j).
    rw (e, eq-eqb (suc j) (suc j) refl) (sym (ap is_eq (tied_itself order_total (get_or dict j Null)))))
    (λ (ne : i ≢ j).
    ne_eqb (suc i) (suc j) (λ e. ne (omega (arith, e)))
    ∙ ⊎_elim (λ (h : i < j). sym (ap is_eq (Less-from_sorted order dict i j Null is.sorted h (omega (arith, high)))))
    (λ (h : j ≤ i).
    let up : order (get_or dict j Null) (get_or dict i Null) ≡ Less = Less-from_sorted order dict j i Null is.sorted (omega (arith, ne, h)) (omega (arith, low)) in
    sym (ap is_eq (order_total.antisymm (get_or dict i Null) (get_or dict j Null) ∙ ap ordering_reverse up)))
    (cases_lt i j))
    (cases_eq i j)

count-values : (dict : List Value) (codes : List ℕ) (code : ℕ) → IsDictionary dict → All (λ c. c < length (coded dict)) codes → code < length (coded dict) →
    count_by (λ x. eqb x code) codes ≡ count_of (get_or (coded dict) code Null) (values_at (coded dict) codes)
count-values dict [] code is all inside = refl
count-values dict (x ∷ codes) code is all inside =
    let value = get_or (coded dict) code Null in
    let here = same-codes dict x code is (All-head (λ c. c < length (coded dict)) x codes all) inside in
    let rest = count-values dict codes code is (All-tail (λ c. c < length (coded dict)) x codes all) inside in
    sum_by-cons (λ x. cond (eqb x code) 1 0) x codes
    ∙ (ap (λ b. cond b 1 0 + count_by (λ x. eqb x code) codes) here
    ∙ (ap (λ n. cond (is_eq (order (get_or (coded dict) x Null) value)) 1 0 + n) rest
    ∙ sym (sum_by-cons (λ v. cond (is_eq (order v value)) 1 0) (get_or (coded dict) x Null) (values_at (coded dict) codes))))

-- the counts of the codes of values
pub counts-are : (dict : List Value) (codes : List ℕ) (counts : List ℕ) (most code : ℕ) → IsDictionary dict → most ≡ length (coded dict) →
    counts ≡ fold one_more (replicate most 0) codes → All (λ c. c < length (coded dict)) codes → code < length (coded dict) →
    get_or counts code 0 ≡ count_of (get_or (coded dict) code Null) (values_at (coded dict) codes)
counts-are dict codes counts most code is long are all inside =
    let within : code < length (replicate most 0) = omega (arith, length-replicate {A = ℕ} most 0, long, inside) in
    ap (λ l. get_or l code 0) are
    ∙ (counts-from (replicate most 0) codes code within
    ∙ (ap (λ n. n + count_by (λ x. eqb x code) codes) (get_or-replicate most code 0 0 (omega (arith, long, inside)))
    ∙ (zero-add (count_by (λ x. eqb x code) codes) ∙ count-values dict codes code is all inside)))

-- nothing is counted yet
pub none-counted : (counts : List ℕ) (code : ℕ) → counts ≡ replicate (length counts) 0 → get_or counts code 0 ≤ 0
none-counted counts code none =
    let zero_at : get_or counts code 0 ≡ 0 =
    ap (λ l. get_or l code 0) none
    ∙ ⊎_elim (λ (h : code < length counts). get_or-replicate (length counts) code 0 0 h)
    (λ (h : length counts ≤ code). get_or_past (replicate (length counts) 0) code 0 (omega (arith, length-replicate {A = ℕ} (length counts) 0, h)))
    (cases_lt code (length counts)) in
    omega (arith, zero_at)

-- what holds of all codes holds of 64 of them
pub share-all : (n at : ℕ) (codes : List ℕ) → All (λ code. code < n) codes → All (λ code. code < n) (take 64 (drop at codes))
share-all n at codes all = λ k d h.
    let low : k < 64 = omega (arith, length-take 64 (drop at codes), h) in
    let within : at + k < length codes = omega (arith, length-take 64 (drop at codes), length-drop at codes, h) in
    let here = get_or-take 64 (drop at codes) k d low ∙ get_or-drop at codes k d in
    omega (arith, here, all (at + k) d within)

-- the counts of the chosen values of a column
pub counts-shown : (dict keys : List Value) (mask : List Bool) (codes counts : List ℕ) (most : ℕ) → IsDictionary dict → most ≡ length (coded dict) →
    counts ≡ fold one_more (replicate most 0) (chosen mask codes) → StandAt keys (coded dict) codes → AreCounts (chosen mask keys) (coded dict) counts
counts-shown dict keys mask codes counts most is long are stand = record {
  size = ap length are ∙ (length-counts (replicate most 0) (chosen mask codes) ∙ (length-replicate {A = ℕ} most 0 ∙ long));
  each = λ code inside.
      counts-are dict (chosen mask codes) counts most code is long are (chosen-all (length (coded dict)) mask codes stand.inside) inside
      ∙ ap (count_of (get_or (coded dict) code Null)) (chosen-values (coded dict) mask codes ∙ ap (chosen mask) stand.same);
}
