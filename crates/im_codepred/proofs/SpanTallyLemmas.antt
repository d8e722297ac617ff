-- What the values of a range of codes come to, where they are numbers that follow one another and each code is there.
use Rattle.std.proofs.Common.{◌≡◌, ℕ, zero, suc, ◌+◌, ◌-◌, ◌^◌, ◌<◌, ◌≤◌, ◌||◌, max, Bool, true, false, cond, eqb, nat_lt, if◌then◌else◌, ℤ, pos, neg_ℤ, ◌+ℤ◌, ◌≤ℤ◌, List, [], ◌∷◌, length, get_or, map, filter, fold, All, Contains, sym, refl, ap, subst, ◌∙◌, arith}
use Rattle.std.specs.Prelude.{count_by, IfSome, Option, Some, None}
use Rattle.std.specs.Ordering.{is_eq}
use Rattle.std.specs.Cmp.{tied_itself}
use Rattle.std.proofs.lemmas.Bool.Decides.{nat_tests}
use Rattle.std.proofs.Math.IntN.{zero-*ℤ, +ℤ_idl}
use Rattle.std.proofs.lemmas.Int.{ints}
use Rattle.std.proofs.lemmas.List.Elements.{All-head, All-tail, All-cons, All-contains_itself}
use Rattle.std.proofs.lemmas.List.Sums.{sum_by-cons}
use Rattle.std.proofs.lemmas.Map.Views.{All-insert_key}
use Rattle.std.specs.List.{range_with_len}
use Rattle.std.proofs.lemmas.List.{length-map}
use Rattle.im_syntax.specs.BoundFits.{value_at}
use Rattle.im_values.specs.declared.content.Content.{Content as Value}
use Rattle.im_values.specs.declared.content.Content.TheVariants.{Int, Text, Null}
use Rattle.im_values.specs.Order.{order}
use Rattle.im_values.specs.Sizes.{dictionary}
use Rattle.im_values.proofs.ForCallers.{order_total}
use Rattle.im_codes.specs.Dictionary.{coded, values_at, IsDictionary}
use Rattle.im_column.specs.Forms.{AreKeptFor}
use Rattle.im_lanes.specs.Masks.{is_within}
use Rattle.im_codepred.specs.declared.tally.Tally.{Tally}
use Rattle.im_codepred.specs.Selection.{AreLong, row_at}
use Rattle.im_codepred.specs.Tallies.{IsTallyOfAll, IsWithin, chosen}
use Rattle.im_codepred.specs.inner.CodeNumbers.{AreFrom}
use Rattle.im_codepred.specs.inner.Ranged.{above, codes_within, LieWithin}
use Rattle.im_codepred.specs.inner.Tallying.{FoundOf, lesser_code, nothing, number_at, taken, times_of}
use Rattle.im_codepred.proofs.CountLemmas.{same-codes}
use Rattle.im_codepred.proofs.FoundLemmas.{once-more, same-found, taken-some}
use Rattle.im_codepred.proofs.RangedLemmas.{below-end, from-low}
use Rattle.im_codepred.proofs.SelectionLemmas.{ask-columns}

-- ---- each code of a dictionary is there

-- what holds of all values holds of those of their dictionary
dictionary-all : (P : Value → Type 0) (values : List Value) → All P values → All P (dictionary values)
dictionary-all P [] all = all
dictionary-all P (Int n ∷ values) all =
    All-insert_key order (Int n) P (dictionary values) (dictionary-all P values (All-tail P (Int n) values all)) (All-head P (Int n) values all)
dictionary-all P (Text t ∷ values) all =
    All-insert_key order (Text t) P (dictionary values) (dictionary-all P values (All-tail P (Text t) values all)) (All-head P (Text t) values all)
dictionary-all P (Null ∷ values) all = dictionary-all P values (All-tail P Null values all)

-- codes whose value is one that some code of a list has are in the list
code-held : (dict : List Value) (codes : List ℕ) (code : ℕ) → IsDictionary dict → All (λ c. c < length (coded dict)) codes → code < length (coded dict) →
    Contains (values_at (coded dict) codes) (get_or (coded dict) code Null) → Contains codes code
code-held dict [] code is all inside held = absurd (omega (arith, held.1))
code-held dict (c ∷ codes) code is all inside (zero, below, same) =
    let equal : eqb c code ≡ true =
    same-codes dict c code is (All-head (λ c. c < length (coded dict)) c codes all) inside
    ∙ (ap (λ v. is_eq (order v (get_or (coded dict) code Null))) same ∙ ap is_eq (tied_itself order_total (get_or (coded dict) code Null))) in
    (0, omega arith, grind (arith, nat_tests, equal))
code-held dict (c ∷ codes) code is all inside (suc k, below, same) =
    let rest = code-held dict codes code is (All-tail (λ c. c < length (coded dict)) c codes all) inside (k, omega (arith, below), same) in
    (suc rest.0, omega (arith, rest.1), rest.2)

pub each-there : (values dict : List Value) (codes : List ℕ) (code : ℕ) → IsDictionary dict → AreKeptFor values dict codes → 0 < code → code < length (coded dict) →
    Contains codes code
each-there values dict codes zero is kept some inside = absurd (omega (arith, some))
each-there values dict codes (suc k) is kept some inside =
    let within : k < length dict = omega (arith, inside) in
    let all : All (Contains values) dict = subst (λ d. All (Contains values) d) (sym kept.is_dictionary) (dictionary-all (Contains values) values (All-contains_itself values)) in
    code-held dict codes (suc k) is kept.are_codes.inside inside
    (subst (λ vs. Contains vs (get_or dict k Null)) (sym kept.are_codes.same) (all k Null within))

-- so it is among those of a range that it lies in
held-within : (p : ℕ → Bool) (codes : List ℕ) (code : ℕ) → Contains codes code → p code ≡ true → Contains (filter p codes) code
held-within p [] code held passes = absurd (omega (arith, held.1))
held-within p (c ∷ codes) code (zero, below, same) passes =
    let here : p c ≡ true = ap p same ∙ passes in
    rw here (let first : Contains (c ∷ filter p codes) code = (0, omega arith, same) in first)
held-within p (c ∷ codes) code (suc k, below, same) passes = by (p c) (held-within p codes code (k, omega (arith, below), same) passes)
  where
    by : (b : Bool) → Contains (filter p codes) code → Contains (if b then c ∷ filter p codes else filter p codes) code
    by true rest = (suc rest.0, omega (arith, rest.1), rest.2)
    by false rest = rest

-- ---- what is found among codes from one on

-- codes from 1 on of a dictionary of numbers that follow one another, from a first one on
pub record AreCodesFrom (dict : List Value) (low high : ℕ) (codes : List ℕ) : Type 0 where
  pub some : 0 < low
  pub last : high < length (coded dict)
  pub from : All (λ code. low ≤ code) codes
  pub to : All (λ code. code ≤ high) codes

fewer : (dict : List Value) (low high code : ℕ) (codes : List ℕ) → AreCodesFrom dict low high (code ∷ codes) → AreCodesFrom dict low high codes
fewer dict low high code codes are = record {
  some = are.some;
  last = are.last;
  from = All-tail (λ c. low ≤ c) code codes are.from;
  to = All-tail (λ c. c ≤ high) code codes are.to;
}

-- a code from 1 on is taken
taken-code : (dict : List Value) (found : FoundOf) (code : ℕ) → 0 < code → taken dict found code ≡ record {
  values = found.values + 1;
  sum = found.sum +ℤ number_at dict code;
  least = lesser_code found.least code;
  greatest = max found.greatest code;
}
taken-code dict found zero some = absurd (omega (arith, some))
taken-code dict found (suc k) some = taken-some dict found k

-- the number of a code by that of another
number-from : (dict : List Value) (first : ℤ) (low code : ℕ) → AreFrom dict first → 0 < low → low ≤ code → code < length (coded dict) →
    number_at dict code ≡ (number_at dict low +ℤ pos (code - low))
number-from dict first zero code are some from inside = absurd (omega (arith, some))
number-from dict first (suc l) zero are some from inside = absurd (omega (arith, from))
number-from dict first (suc l) (suc k) are some from inside =
    let a = are.each l (omega (arith, from, inside)) in
    let b = are.each k (omega (arith, inside)) in
    omega (arith, ints, a, b, from)

-- how many are found, and their sum
values-found : (dict : List Value) (low high : ℕ) (found : FoundOf) (codes : List ℕ) → AreCodesFrom dict low high codes →
    (fold (taken dict) found codes).values ≡ found.values + length codes
values-found dict low high found [] are = omega arith
values-found dict low high found (code ∷ codes) are =
    let rest = values-found dict low high (taken dict found code) codes (fewer dict low high code codes are) in
    let from = All-head (λ c. low ≤ c) code codes are.from in
    let one = ap (λ (f : FoundOf). f.values) (taken-code dict found code (omega (arith, from, are.some))) in
    omega (arith, rest, one)

no-times : (n : ℤ) → times_of 0 n ≡ pos 0
unfolding times_of
no-times n = zero-*ℤ n

sum-found : (dict : List Value) (first : ℤ) (low high : ℕ) (found : FoundOf) (codes : List ℕ) → AreFrom dict first → AreCodesFrom dict low high codes →
    (fold (taken dict) found codes).sum ≡ (found.sum +ℤ (times_of (length codes) (number_at dict low) +ℤ pos (above low codes)))
sum-found dict first low high found [] follow are = let none = no-times (number_at dict low) in omega (arith, ints, none)
sum-found dict first low high found (code ∷ codes) follow are =
    let from = All-head (λ c. low ≤ c) code codes are.from in
    let to = All-head (λ c. c ≤ high) code codes are.to in
    let rest = sum-found dict first low high (taken dict found code) codes follow (fewer dict low high code codes are) in
    let one = ap (λ (f : FoundOf). f.sum) (taken-code dict found code (omega (arith, from, are.some))) in
    let number = number-from dict first low code follow are.some from (omega (arith, to, are.last)) in
    let times = once-more (pos 0) (number_at dict low) (length codes) in
    let more = sum_by-cons (λ (c : ℕ). c - low) code codes in
    omega (arith, ints, rest, one, number, times, more)

-- the sum is one of as many numbers of 64 bits
within-found : (dict : List Value) (first : ℤ) (low high : ℕ) (found : FoundOf) (codes : List ℕ) → AreFrom dict first → neg_ℤ (pos (2 ^ 63)) ≤ℤ first →
    AreCodesFrom dict low high codes → IsWithin found.values found.sum →
    IsWithin (fold (taken dict) found codes).values (fold (taken dict) found codes).sum
within-found dict first low high found [] follow small are within = within
within-found dict first low high found (code ∷ codes) follow small are within =
    let from = All-head (λ c. low ≤ c) code codes are.from in
    let to = All-head (λ c. c ≤ high) code codes are.to in
    let one = taken-code dict found code (omega (arith, from, are.some)) in
    within-found dict first low high (taken dict found code) codes follow small (fewer dict low high code codes are)
    (subst (λ (f : FoundOf). IsWithin f.values f.sum) (sym one) (by code from to))
  where
    by : (c : ℕ) → low ≤ c → c ≤ high → IsWithin (found.values + 1) (found.sum +ℤ number_at dict c)
    by zero from to = absurd (let some = are.some in omega (arith, from, some))
    by (suc k) from to =
        let last = are.last in
        let number = follow.each k (omega (arith, to, last)) in
        let most = follow.small in
        let a = within.low in
        let b = within.high in
        record { low = omega (arith, ints, number, small, a); high = omega (arith, ints, number, most, b, to, last) }

-- ---- the ends

lesser-below : (a code : ℕ) → 0 < code → (0 < lesser_code a code) × (lesser_code a code ≤ code) × (0 < a → lesser_code a code ≤ a)
lesser-below a code some = grind (arith, nat_tests, some)

least-falls : (dict : List Value) (low high : ℕ) (found : FoundOf) (codes : List ℕ) → AreCodesFrom dict low high codes → 0 < found.least →
    (0 < (fold (taken dict) found codes).least) × ((fold (taken dict) found codes).least ≤ found.least)
least-falls dict low high found [] are there = (there, omega arith)
least-falls dict low high found (code ∷ codes) are there =
    let from = All-head (λ c. low ≤ c) code codes are.from in
    let one = ap (λ (f : FoundOf). f.least) (taken-code dict found code (omega (arith, from, are.some))) in
    let below = lesser-below found.least code (omega (arith, from, are.some)) in
    let rest = least-falls dict low high (taken dict found code) codes (fewer dict low high code codes are) (omega (arith, one, below.0)) in
    (rest.0, omega (arith, rest.1, one, below.2 there))

least-reaches : (dict : List Value) (low high : ℕ) (found : FoundOf) (codes : List ℕ) (code : ℕ) → AreCodesFrom dict low high codes → Contains codes code →
    (0 < (fold (taken dict) found codes).least) × ((fold (taken dict) found codes).least ≤ code)
least-reaches dict low high found [] code are held = absurd (omega (arith, held.1))
least-reaches dict low high found (c ∷ codes) code are (zero, inside, same) =
    let from = All-head (λ c. low ≤ c) c codes are.from in
    let one = ap (λ (f : FoundOf). f.least) (taken-code dict found c (omega (arith, from, are.some))) in
    let below = lesser-below found.least c (omega (arith, from, are.some)) in
    let rest = least-falls dict low high (taken dict found c) codes (fewer dict low high c codes are) (omega (arith, one, below.0)) in
    (rest.0, omega (arith, rest.1, one, below.1, same))
least-reaches dict low high found (c ∷ codes) code are (suc k, inside, same) =
    least-reaches dict low high (taken dict found c) codes code (fewer dict low high c codes are) (k, omega (arith, inside), same)

lesser-from : (a code low : ℕ) → (0 < a → low ≤ a) → low ≤ code → low ≤ lesser_code a code
lesser-from zero code low before from = from
lesser-from (suc a) code low before from = by (eqb (suc a) 0 || nat_lt code (suc a))
  where
    by : (b : Bool) → low ≤ cond b code (suc a)
    by true = from
    by false = before (omega arith)

least-stays : (dict : List Value) (low high : ℕ) (found : FoundOf) (codes : List ℕ) → AreCodesFrom dict low high codes → (0 < found.least → low ≤ found.least) →
    0 < (fold (taken dict) found codes).least → low ≤ (fold (taken dict) found codes).least
least-stays dict low high found [] are before = before
least-stays dict low high found (code ∷ codes) are before =
    let from = All-head (λ c. low ≤ c) code codes are.from in
    let one = ap (λ (f : FoundOf). f.least) (taken-code dict found code (omega (arith, from, are.some))) in
    least-stays dict low high (taken dict found code) codes (fewer dict low high code codes are)
    (λ there. let low_is = lesser-from found.least code low before from in omega (arith, one, low_is))

greatest-rises : (dict : List Value) (low high : ℕ) (found : FoundOf) (codes : List ℕ) → AreCodesFrom dict low high codes →
    found.greatest ≤ (fold (taken dict) found codes).greatest
greatest-rises dict low high found [] are = omega arith
greatest-rises dict low high found (code ∷ codes) are =
    let from = All-head (λ c. low ≤ c) code codes are.from in
    let one = ap (λ (f : FoundOf). f.greatest) (taken-code dict found code (omega (arith, from, are.some))) in
    let rest = greatest-rises dict low high (taken dict found code) codes (fewer dict low high code codes are) in
    omega (arith, one, rest)

greatest-reaches : (dict : List Value) (low high : ℕ) (found : FoundOf) (codes : List ℕ) (code : ℕ) → AreCodesFrom dict low high codes → Contains codes code →
    code ≤ (fold (taken dict) found codes).greatest
greatest-reaches dict low high found [] code are held = absurd (omega (arith, held.1))
greatest-reaches dict low high found (c ∷ codes) code are (zero, inside, same) =
    let from = All-head (λ c. low ≤ c) c codes are.from in
    let one = ap (λ (f : FoundOf). f.greatest) (taken-code dict found c (omega (arith, from, are.some))) in
    let rest = greatest-rises dict low high (taken dict found c) codes (fewer dict low high c codes are) in
    omega (arith, one, rest, same)
greatest-reaches dict low high found (c ∷ codes) code are (suc k, inside, same) =
    greatest-reaches dict low high (taken dict found c) codes code (fewer dict low high c codes are) (k, omega (arith, inside), same)

greatest-stays : (dict : List Value) (low high : ℕ) (found : FoundOf) (codes : List ℕ) → AreCodesFrom dict low high codes → found.greatest ≤ high →
    (fold (taken dict) found codes).greatest ≤ high
greatest-stays dict low high found [] are before = before
greatest-stays dict low high found (code ∷ codes) are before =
    let from = All-head (λ c. low ≤ c) code codes are.from in
    let to = All-head (λ c. c ≤ high) code codes are.to in
    let one = ap (λ (f : FoundOf). f.greatest) (taken-code dict found code (omega (arith, from, are.some))) in
    greatest-stays dict low high (taken dict found code) codes (fewer dict low high code codes are) (omega (arith, one, to, before))

-- ---- the codes of a range

-- the codes of a list that lie in a range, both of whose ends are there
are-codes-from : (dict : List Value) (low end : ℕ) (codes : List ℕ) → 0 < low → low < end → end ≤ length (coded dict) →
    AreCodesFrom dict low (end - 1) (codes_within low end codes)
are-codes-from dict low end codes some order most = record {
  some = some;
  last = omega (arith, order, most);
  from = all-from codes;
  to = all-to codes;
}
  where
    all-from : (codes : List ℕ) → All (λ code. low ≤ code) (codes_within low end codes)
    all-from [] = λ k d h. absurd (omega (arith, h))
    all-from (code ∷ codes) = by (is_within low end code) refl (all-from codes)
      where
        by : (b : Bool) → is_within low end code ≡ b → All (λ c. low ≤ c) (codes_within low end codes) →
            All (λ c. low ≤ c) (if b then code ∷ codes_within low end codes else codes_within low end codes)
        by true e rest = All-cons (λ c. low ≤ c) code (codes_within low end codes) (from-low low end code e) rest
        by false e rest = rest

    all-to : (codes : List ℕ) → All (λ code. code ≤ end - 1) (codes_within low end codes)
    all-to [] = λ k d h. absurd (omega (arith, h))
    all-to (code ∷ codes) = by (is_within low end code) refl (all-to codes)
      where
        by : (b : Bool) → is_within low end code ≡ b → All (λ c. c ≤ end - 1) (codes_within low end codes) →
            All (λ c. c ≤ end - 1) (if b then code ∷ codes_within low end codes else codes_within low end codes)
        by true e rest = let below = below-end low end code e in All-cons (λ c. c ≤ end - 1) code (codes_within low end codes) (omega (arith, below)) rest
        by false e rest = rest

-- the chosen of codes are those that pass
pub chosen-passing : (p : ℕ → Bool) (codes : List ℕ) → chosen (map p codes) codes ≡ filter p codes
chosen-passing p [] = refl
chosen-passing p (code ∷ codes) = ap (λ (l : List ℕ). if p code then code ∷ l else l) (chosen-passing p codes)

-- what is found in a range of codes
pub record IsFoundWithin (dict : List Value) (low end : ℕ) (codes : List ℕ) (n total : ℕ) : Type 0 where
  pub found : let f : FoundOf = record { values = n; sum = times_of n (number_at dict low) +ℤ pos total; least = low; greatest = end - 1 } in
      f ≡ fold (taken dict) nothing (chosen (map (is_within low end) codes) codes)
  pub within : IsWithin n (times_of n (number_at dict low) +ℤ pos total)

pub found-within : (dict : List Value) (first : ℤ) (low end : ℕ) (codes : List ℕ) (n total : ℕ) → AreFrom dict first → neg_ℤ (pos (2 ^ 63)) ≤ℤ first →
    0 < low → low < end → end ≤ length (coded dict) → ((code : ℕ) → 0 < code → code < length (coded dict) → Contains codes code) →
    LieWithin low end codes n total → IsFoundWithin dict low end codes n total
found-within dict first low end codes n total follow small some order most there lie =
    let cs = codes_within low end codes in
    let f : FoundOf = fold (taken dict) nothing cs in
    let are = are-codes-from dict low end codes some order most in
    let low_there : Contains cs low = held-within (is_within low end) codes low (there low some (omega (arith, order, most))) (grind (arith, nat_tests, order)) in
    let last_there : Contains cs (end - 1) =
    held-within (is_within low end) codes (end - 1) (there (end - 1) (omega (arith, some, order)) (omega (arith, order, most))) (grind (arith, nat_tests, order)) in
    let values : f.values ≡ n = let v = values-found dict low (end - 1) nothing cs are in omega (arith, v, lie.count) in
    let sum : f.sum ≡ (times_of n (number_at dict low) +ℤ pos total) =
    sum-found dict first low (end - 1) nothing cs follow are
    ∙ (+ℤ_idl (times_of (length cs) (number_at dict low) +ℤ pos (above low cs)) ∙ ap (λ k. times_of k (number_at dict low) +ℤ pos (above low cs)) (sym lie.count)
    ∙ ap (λ k. times_of n (number_at dict low) +ℤ pos k) (sym lie.sum)) in
    let reached = least-reaches dict low (end - 1) nothing cs low are low_there in
    let least : f.least ≡ low =
    let stays = least-stays dict low (end - 1) nothing cs are (λ h. absurd (omega (arith, h))) reached.0 in omega (arith, reached.1, stays) in
    let greatest : f.greatest ≡ end - 1 =
    let up = greatest-reaches dict low (end - 1) nothing cs (end - 1) are last_there in
    let down = greatest-stays dict low (end - 1) nothing cs are (omega arith) in
    omega (arith, up, down) in
    let within = within-found dict first low (end - 1) nothing cs follow small are (record { low = omega (arith, ints); high = omega (arith, ints) }) in
    record {
      found = sym (ap (fold (taken dict) nothing) (chosen-passing (is_within low end) codes) ∙ same-found _ _ _ _ _ _ _ _ values sum least greatest);
      within = subst (λ k. IsWithin k (times_of n (number_at dict low) +ℤ pos total)) values (subst (λ z. IsWithin f.values z) sum within);
    }

-- as many positions are chosen as codes pass
pub count-passing : (p : ℕ → Bool) (codes : List ℕ) → length (filter p codes) ≡ count_by (λ (b : Bool). b) (map p codes)
count-passing p [] = refl
count-passing p (code ∷ codes) = by (p code) (count-passing p codes) (sum_by-cons (λ (b : Bool). cond b 1 0) (p code) (map p codes))
  where
    by : (b : Bool) → length (filter p codes) ≡ count_by (λ (b : Bool). b) (map p codes) →
        count_by (λ (b : Bool). b) (p code ∷ map p codes) ≡ cond (p code) 1 0 + count_by (λ (b : Bool). b) (map p codes) →
        length (if p code then code ∷ filter p codes else filter p codes) ≡ count_by (λ (b : Bool). b) (p code ∷ map p codes)
    by b e more = rw more (pick (p code) e)
      where
        pick : (c : Bool) → length (filter p codes) ≡ count_by (λ (b : Bool). b) (map p codes) →
            length (if c then code ∷ filter p codes else filter p codes) ≡ cond c 1 0 + count_by (λ (b : Bool). b) (map p codes)
        pick true e = omega (arith, e)
        pick false e = omega (arith, e)

-- the same of the rows of columns, where what is asked of a row is asked of its value in one column
pub tally-of-rows : (truth : List Value → Bool) (p : Value → Bool) (columns : List (List Value)) (column n : ℕ) (values : List Value) (tally : Tally) →
    column < length columns → AreLong columns n → ((row : List Value) → truth row ≡ p (value_at row column)) → values ≡ get_or columns column [] →
    IsTallyOfAll (map p values) values tally → IsTallyOfAll (map (λ i. truth (row_at columns i)) (range_with_len 0 n)) (get_or columns column []) tally
tally-of-rows truth p columns column n values tally inside long same is all =
    let asks : map p (get_or columns column []) ≡ map (λ i. truth (row_at columns i)) (range_with_len 0 n) =
    ask-columns p columns column n (omega (arith, length-map columns (λ (c : List Value). get_or c 0 Null), inside)) long
    ∙ ap (λ (f : ℕ → Bool). map f (range_with_len 0 n)) (λ j i. sym (same (row_at columns i)) j) in
    subst (λ m. IsTallyOfAll m (get_or columns column []) tally) asks (subst (λ vs. IsTallyOfAll (map p vs) vs tally) is all)

-- a fact of what is there, if there is something, where another is known of it
pub if-some : {T : Type 0} (o : Option T) (P Q : T → Type 0) → ((t : T) → P t → Q t) → IfSome o P → IfSome o Q
if-some None P Q next known = known
if-some (Some t) P Q next known = next t known
