-- What is found among codes, by the code of their keys.
use Rattle.std.proofs.Common.{◌≡◌, ◌≢◌, ℕ, zero, suc, ◌+◌, ◌<◌, ◌≤◌, Bool, true, false, cond, eqb, max, ℤ, ◌+ℤ◌, List, [], ◌∷◌, length, get_or, set, take, drop, zip, map, fold, replicate, All, ⊎_elim, sym, refl, ap, subst, ◌∙◌, arith}
use Rattle.std.proofs.Math.ListN.{length-set}
use Rattle.std.proofs.lemmas.Bool.{cases_lt, cases_eq, true≢false}
use Rattle.std.proofs.lemmas.List.{get_or-set_same, get_or-set_other, set_past, get_or_past, get_or-replicate, length-replicate, map-set, get_or_default, get_or-map, length-map}
use Rattle.std.proofs.lemmas.List.Elements.{All-head, All-tail}
use Rattle.im_values.specs.declared.content.Content.{Content as Value}
use Rattle.im_values.specs.declared.content.Content.TheVariants.{Null}
use Rattle.im_codes.specs.Dictionary.{coded, values_at, IsDictionary}
use Rattle.im_codepred.specs.Tallies.{chosen}
use Rattle.im_codepred.specs.declared.tally.Tally.{Tally}
use Rattle.im_codepred.specs.inner.Tallying.{number_at, lesser_code, Shows, ShowsFor, ShowEach, ShowEachFor, FoundOf, nothing, taken, taken_for, TotalsOf, totals_of, no_totals, with_value, with_pair, with_code, AreInside, IsInside}
use Rattle.im_codepred.proofs.FoundLemmas.{taken_for-grows, totals-taken, inside-taken}
use Rattle.im_codepred.proofs.TallyLemmas.{chosen-values, chosen-all, inside-nothing}
use Rattle.im_codepred.proofs.KeyedLemmas.{zip-none, chosen-zip}

drop-zip : {A B : Type 0} (n : ℕ) (xs : List A) (ys : List B) → drop n (zip xs ys) ≡ zip (drop n xs) (drop n ys)
drop-zip zero xs ys = refl
drop-zip (suc n) [] ys = refl
drop-zip {A = A} {B = B} (suc n) (x ∷ xs) [] = sym (zip-none {A = A} {B = B} (drop n xs))
drop-zip (suc n) (x ∷ xs) (y ∷ ys) = drop-zip n xs ys

take-zip : {A B : Type 0} (n : ℕ) (xs : List A) (ys : List B) → take n (zip xs ys) ≡ zip (take n xs) (take n ys)
take-zip zero xs ys = refl
take-zip (suc n) [] ys = refl
take-zip (suc n) (x ∷ xs) [] = refl
take-zip (suc n) (x ∷ xs) (y ∷ ys) = ap (λ l. (x, y) ∷ l) (take-zip n xs ys)

-- the pairs of 64 positions
pub share-zip : {A B : Type 0} (xs : List A) (ys : List B) (first : ℕ) → zip (take 64 (drop first xs)) (take 64 (drop first ys)) ≡ take 64 (drop first (zip xs ys))
share-zip xs ys first = sym (ap (take 64) (drop-zip first xs ys) ∙ take-zip 64 (drop first xs) (drop first ys))

-- ---- how many are found

code-at : (ends : Bool) (dict : List Value) (founds : List FoundOf) (x code key : ℕ) →
    ((get_or founds key nothing).values ≤ (get_or (with_code ends dict founds (x, code)) key nothing).values)
    × ((get_or (with_code ends dict founds (x, code)) key nothing).values ≤ (get_or founds key nothing).values + 1)
code-at ends dict founds x code key =
    let more = taken_for ends dict (get_or founds x nothing) code in
    let grows = taken_for-grows ends dict (get_or founds x nothing) code in
    ⊎_elim (λ (h : key ≡ x).
    ⊎_elim (λ (inside : x < length founds).
    rw (h, get_or-set_same founds x more nothing inside) (grows.low, grows.high))
    (λ (past : length founds ≤ x). rw (set_past founds x more past) (omega arith, omega arith))
    (cases_lt x (length founds)))
    (λ (h : key ≢ x). rw (get_or-set_other founds x key more nothing h) (omega arith, omega arith))
    (cases_eq key x)

pub founds-grow : (ends : Bool) (dict : List Value) (founds : List FoundOf) (pairs : List (ℕ × ℕ)) (key : ℕ) →
    ((get_or founds key nothing).values ≤ (get_or (fold (with_code ends dict) founds pairs) key nothing).values)
    × ((get_or (fold (with_code ends dict) founds pairs) key nothing).values ≤ (get_or founds key nothing).values + length pairs)
founds-grow ends dict founds [] key = (omega arith, omega arith)
founds-grow ends dict founds (p ∷ pairs) key =
    let here = code-at ends dict founds p.0 p.1 key in
    let rest = founds-grow ends dict (with_code ends dict founds p) pairs key in
    (omega (arith, here.0, rest.0), omega (arith, here.1, rest.1))

pub nothing-at : (most key : ℕ) → get_or (replicate most nothing) key nothing ≡ nothing
nothing-at most key =
    ⊎_elim (λ (h : key < most). get_or-replicate most key nothing nothing h)
    (λ (h : most ≤ key). get_or_past (replicate most nothing) key nothing (omega (arith, length-replicate {A = FoundOf} most nothing, h)))
    (cases_lt key most)

pub nothing-found : (founds : List FoundOf) (key : ℕ) → founds ≡ replicate (length founds) nothing → (get_or founds key nothing).values ≤ 0
nothing-found founds key none =
    let here : get_or founds key nothing ≡ nothing = ap (λ l. get_or l key nothing) none ∙ nothing-at (length founds) key in
    omega (arith, ap (λ f. f.values) here)

-- one code is put to its key
pub code-put : (ends : Bool) (dict : List Value) (founds : List FoundOf) (key code : ℕ) (d new : FoundOf) (p : ℕ × ℕ) → key < length founds →
    new ≡ taken_for ends dict (get_or founds key d) code → p ≡ (key, code) → set founds key new ≡ with_code ends dict founds p
code-put ends dict founds key code d new p inside put pair =
    let here : get_or founds key d ≡ get_or founds key nothing = get_or_default founds key d nothing inside in
    ap (set founds key) (put ∙ ap (λ f. taken_for ends dict f code) here) ∙ ap (with_code ends dict founds) (sym pair)

-- ---- as values

totals-at : (dict : List Value) (founds : List FoundOf) (key : ℕ) → get_or (map (totals_of dict) founds) key no_totals ≡ totals_of dict (get_or founds key nothing)
totals-at dict [] key = refl
totals-at dict (f ∷ founds) zero = refl
totals-at dict (f ∷ founds) (suc key) = totals-at dict founds key

code-inside : (dict : List Value) (founds : List FoundOf) (x code : ℕ) → AreInside dict founds → code < length (coded dict) → AreInside dict (with_code true dict founds (x, code))
code-inside dict founds x code inside low key =
    let more = taken dict (get_or founds x nothing) code in
    ⊎_elim (λ (h : key ≡ x).
    ⊎_elim (λ (within : x < length founds).
    rw (h, get_or-set_same founds x more nothing within) (inside-taken dict (get_or founds x nothing) code (inside x) low))
    (λ (past : length founds ≤ x). rw (set_past founds x more past) (inside key))
    (cases_lt x (length founds)))
    (λ (h : key ≢ x). rw (get_or-set_other founds x key more nothing h) (inside key))
    (cases_eq key x)

one-code : (dict : List Value) (founds : List FoundOf) (x code : ℕ) → IsDictionary dict → AreInside dict founds → code < length (coded dict) →
    map (totals_of dict) (with_code true dict founds (x, code)) ≡ with_pair (map (totals_of dict) founds) (x, get_or (coded dict) code Null)
one-code dict founds x code is inside low =
    let value = get_or (coded dict) code Null in
    map-set (totals_of dict) founds x (taken dict (get_or founds x nothing) code)
    ∙ ap (set (map (totals_of dict) founds) x)
    (totals-taken dict (get_or founds x nothing) code is (inside x) low ∙ ap (λ t. with_value t value) (sym (totals-at dict founds x)))

pub record AreShown (dict : List Value) (founds : List FoundOf) (groups : List TotalsOf) : Type 0 where
  pub inside : AreInside dict founds
  pub same : map (totals_of dict) founds ≡ groups

fold-shown : (dict : List Value) (founds : List FoundOf) (keys codes : List ℕ) → IsDictionary dict → AreInside dict founds →
    All (λ code. code < length (coded dict)) codes →
    AreShown dict (fold (with_code true dict) founds (zip keys codes)) (fold with_pair (map (totals_of dict) founds) (zip keys (values_at (coded dict) codes)))
fold-shown dict founds [] codes is inside low = record { inside = inside; same = refl }
fold-shown dict founds (key ∷ keys) [] is inside low = record { inside = inside; same = refl }
fold-shown dict founds (key ∷ keys) (code ∷ codes) is inside low =
    let here = All-head (λ c. c < length (coded dict)) code codes low in
    let rest =
    fold-shown dict (with_code true dict founds (key, code)) keys codes is (code-inside dict founds key code inside here)
    (All-tail (λ c. c < length (coded dict)) code codes low) in
    record {
      inside = rest.inside;
      same = rest.same ∙ ap (λ g. fold with_pair g (zip keys (values_at (coded dict) codes))) (one-code dict founds key code is inside here);
    }

map-nothing : (dict : List Value) (most : ℕ) → map (totals_of dict) (replicate most nothing) ≡ replicate most no_totals
map-nothing dict zero = refl
map-nothing dict (suc most) = ap (λ l. no_totals ∷ l) (map-nothing dict most)

-- what is found with each key, as values, is what the values come to
pub founds-shown : (dict values : List Value) (mask : List Bool) (keys codes : List ℕ) (founds : List FoundOf) (most : ℕ) → values ≡ dict → IsDictionary dict →
    All (λ code. code < length (coded dict)) codes → founds ≡ fold (with_code true values) (replicate most nothing) (chosen mask (zip keys codes)) →
    AreShown values founds (fold with_pair (replicate most no_totals) (chosen mask (zip keys (values_at (coded dict) codes))))
founds-shown dict values mask keys codes founds most same is low comes =
    let none = replicate most nothing in
    let inside : AreInside dict none = λ key.
    let P : FoundOf → Type 0 = λ f. IsInside dict f in
    subst P (sym (nothing-at most key)) (inside-nothing dict) in
    let shown =
    fold-shown dict none (chosen mask keys) (chosen mask codes) is inside (chosen-all (length (coded dict)) mask codes low) in
    let found : founds ≡ fold (with_code true dict) none (zip (chosen mask keys) (chosen mask codes)) =
    comes ∙ (ap (λ d. fold (with_code true d) none (chosen mask (zip keys codes))) same ∙ ap (fold (with_code true dict) none) (chosen-zip mask keys codes)) in
    let vs = values_at (coded dict) codes in
    let pairs : zip (chosen mask keys) (values_at (coded dict) (chosen mask codes)) ≡ chosen mask (zip keys vs) =
    ap (zip (chosen mask keys)) (chosen-values (coded dict) mask codes) ∙ sym (chosen-zip mask keys vs) in
    let groups : map (totals_of dict) founds ≡ fold with_pair (replicate most no_totals) (chosen mask (zip keys vs)) =
    ap (map (totals_of dict)) found ∙ (shown.same
    ∙ (ap (λ g. fold with_pair g (zip (chosen mask keys) (values_at (coded dict) (chosen mask codes)))) (map-nothing dict most)
    ∙ ap (fold with_pair (replicate most no_totals)) pairs)) in
    let P : List FoundOf → Type 0 = λ f. AreInside dict f in
    let Q : List Value → Type 0 = λ d. AreShown d founds (fold with_pair (replicate most no_totals) (chosen mask (zip keys vs))) in
    subst Q (sym same) (record { inside = subst P (sym found) shown.inside; same = groups })

-- what is found with one key, as values
pub total-read : (dict : List Value) (founds : List FoundOf) (i : ℕ) (found : FoundOf) → i < length founds → found ≡ get_or founds i found →
    totals_of dict found ≡ get_or (map (totals_of dict) founds) i (totals_of dict found)
total-read dict founds i found inside is =
    ap (totals_of dict) is ∙ sym (get_or-map (totals_of dict) founds i found (totals_of dict found) inside)

-- ---- with the ends or without

-- what is found comes to as many values and the same sum
record AreAlike (some all : FoundOf) : Type 0 where
  pub values : some.values ≡ all.values
  pub sum : some.sum ≡ all.sum

-- the same of each key
record EachAlike (some all : List FoundOf) : Type 0 where
  pub size : length some ≡ length all
  pub each : (key : ℕ) → AreAlike (get_or some key nothing) (get_or all key nothing)

taken-alike : (dict : List Value) (some all : FoundOf) (code : ℕ) → AreAlike some all → AreAlike (taken_for false dict some code) (taken dict all code)
taken-alike dict some all code alike = by (eqb code 0)
  where
    by : (b : Bool) → AreAlike
        (cond b some (record some { values = some.values + 1; sum = some.sum +ℤ number_at dict code }))
        (cond b all (record { values = all.values + 1; sum = all.sum +ℤ number_at dict code; least = lesser_code all.least code; greatest = max all.greatest code }))
    by true = alike
    by false = record { values = ap (λ n. n + 1) alike.values; sum = ap (λ z. z +ℤ number_at dict code) alike.sum }

code-alike : (dict : List Value) (some all : List FoundOf) (p : ℕ × ℕ) → EachAlike some all → EachAlike (with_code false dict some p) (with_code true dict all p)
code-alike dict some all p alike =
    let less = taken_for false dict (get_or some p.0 nothing) p.1 in
    let more = taken dict (get_or all p.0 nothing) p.1 in
    record {
      size = length-set some p.0 less ∙ (alike.size ∙ sym (length-set all p.0 more));
      each = λ key.
          ⊎_elim (λ (h : key ≡ p.0).
          ⊎_elim (λ (inside : p.0 < length some).
          rw (h, get_or-set_same some p.0 less nothing inside, get_or-set_same all p.0 more nothing (omega (arith, inside, alike.size)))
          (taken-alike dict (get_or some p.0 nothing) (get_or all p.0 nothing) p.1 (alike.each p.0)))
          (λ (past : length some ≤ p.0). rw (set_past some p.0 less past, set_past all p.0 more (omega (arith, past, alike.size))) (alike.each key))
          (cases_lt p.0 (length some)))
          (λ (h : key ≢ p.0). rw (get_or-set_other some p.0 key less nothing h, get_or-set_other all p.0 key more nothing h) (alike.each key))
          (cases_eq key p.0);
    }

fold-alike : (dict : List Value) (some all : List FoundOf) (pairs : List (ℕ × ℕ)) → EachAlike some all →
    EachAlike (fold (with_code false dict) some pairs) (fold (with_code true dict) all pairs)
fold-alike dict some all [] alike = alike
fold-alike dict some all (p ∷ pairs) alike = fold-alike dict (with_code false dict some p) (with_code true dict all p) pairs (code-alike dict some all p alike)

-- without the ends there is none
record HaveNoEnds (founds : List FoundOf) : Type 0 where
  pub each : (key : ℕ) → ((get_or founds key nothing).least ≡ 0) × ((get_or founds key nothing).greatest ≡ 0)

endless-taken : (dict : List Value) (found : FoundOf) (code : ℕ) → (found.least ≡ 0) × (found.greatest ≡ 0) →
    ((taken_for false dict found code).least ≡ 0) × ((taken_for false dict found code).greatest ≡ 0)
endless-taken dict found code none = by (eqb code 0)
  where
    by : (b : Bool) → let f : FoundOf = cond b found (record found { values = found.values + 1; sum = found.sum +ℤ number_at dict code }) in (f.least ≡ 0) × (f.greatest ≡ 0)
    by true = none
    by false = none

endless-code : (dict : List Value) (founds : List FoundOf) (p : ℕ × ℕ) → HaveNoEnds founds → HaveNoEnds (with_code false dict founds p)
endless-code dict founds p none = record { each = each }
  where
    less : FoundOf
    less = taken_for false dict (get_or founds p.0 nothing) p.1

    each : (key : ℕ) → ((get_or (with_code false dict founds p) key nothing).least ≡ 0) × ((get_or (with_code false dict founds p) key nothing).greatest ≡ 0)
    each key =
        ⊎_elim (λ (h : key ≡ p.0).
        ⊎_elim (λ (inside : p.0 < length founds).
        rw (h, get_or-set_same founds p.0 less nothing inside) (endless-taken dict (get_or founds p.0 nothing) p.1 (none.each p.0)))
        (λ (past : length founds ≤ p.0). rw (set_past founds p.0 less past) (none.each key))
        (cases_lt p.0 (length founds)))
        (λ (h : key ≢ p.0). rw (get_or-set_other founds p.0 key less nothing h) (none.each key))
        (cases_eq key p.0)

endless-fold : (dict : List Value) (founds : List FoundOf) (pairs : List (ℕ × ℕ)) → HaveNoEnds founds → HaveNoEnds (fold (with_code false dict) founds pairs)
endless-fold dict founds [] none = none
endless-fold dict founds (p ∷ pairs) none = endless-fold dict (with_code false dict founds p) pairs (endless-code dict founds p none)

pub show-for : (ends : Bool) (t : TotalsOf) (tally : Tally) → Shows t tally → ShowsFor ends t tally
show-for ends t tally shows = record {
  values = shows.values;
  sum = shows.sum;
  least = λ wanted. shows.least;
  greatest = λ wanted. shows.greatest;
  within = shows.within;
}

pub show-each-for : (ends : Bool) (groups : List TotalsOf) (tallies : List Tally) → ShowEach groups tallies → ShowEachFor ends groups tallies
show-each-for ends groups tallies show = record {
  size = show.size;
  each = λ i d inside. show-for ends (get_or groups i no_totals) (get_or tallies i d) (show.each i d inside);
}

-- the ends that are found are codes, wanted or not
pub founds-inside : (ends : Bool) (dict values : List Value) (mask : List Bool) (keys codes : List ℕ) (founds : List FoundOf) (most : ℕ) → values ≡ dict →
    IsDictionary dict → All (λ code. code < length (coded dict)) codes →
    founds ≡ fold (with_code ends values) (replicate most nothing) (chosen mask (zip keys codes)) → AreInside values founds
founds-inside true dict values mask keys codes founds most same is low comes = (founds-shown dict values mask keys codes founds most same is low comes).inside
founds-inside false dict values mask keys codes founds most same is low comes =
    let begins : HaveNoEnds (replicate most nothing) = record { each = λ key. rw (nothing-at most key) (refl, refl) } in
    let none = subst HaveNoEnds (sym comes) (endless-fold values (replicate most nothing) (chosen mask (zip keys codes)) begins) in
    λ key. record { least = omega (arith, (none.each key).0); greatest = omega (arith, (none.each key).1) }

-- what is found with each key is told of what the values come to
pub founds-told : (ends : Bool) (dict values : List Value) (mask : List Bool) (keys codes : List ℕ) (founds : List FoundOf) (tallies : List Tally) (most : ℕ) →
    values ≡ dict → IsDictionary dict → All (λ code. code < length (coded dict)) codes →
    founds ≡ fold (with_code ends values) (replicate most nothing) (chosen mask (zip keys codes)) → ShowEach (map (totals_of values) founds) tallies →
    ShowEachFor ends (fold with_pair (replicate most no_totals) (chosen mask (zip keys (values_at (coded dict) codes)))) tallies
founds-told true dict values mask keys codes founds tallies most same is low comes show =
    let groups = fold with_pair (replicate most no_totals) (chosen mask (zip keys (values_at (coded dict) codes))) in
    let shown = founds-shown dict values mask keys codes founds most same is low comes in
    let P : List TotalsOf → Type 0 = λ g. ShowEach g tallies in
    show-each-for true groups tallies (subst P shown.same show)
founds-told false dict values mask keys codes founds tallies most same is low comes show =
    let none = replicate most nothing in
    let pairs = chosen mask (zip keys codes) in
    let groups = fold with_pair (replicate most no_totals) (chosen mask (zip keys (values_at (coded dict) codes))) in
    let all = fold (with_code true values) none pairs in
    let shown = founds-shown dict values mask keys codes all most same is low refl in
    let begins : EachAlike none none = record { size = refl; each = λ key. record { values = refl; sum = refl } } in
    let P : List FoundOf → Type 0 = λ f. EachAlike f all in
    let alike = subst P (sym comes) (fold-alike values none none pairs begins) in
    let long : length groups ≡ length (map (totals_of values) founds) =
    omega (arith, ap length shown.same, length-map all (totals_of values), length-map founds (totals_of values), alike.size) in
    record {
      size = show.size ∙ sym long;
      each = λ i d inside.
          let here = show.each i d (omega (arith, inside, long)) in
          let mine = totals-at values founds i in
          let whole = totals-at values all i in
          record {
            values = here.values ∙ (ap (λ t. t.values) mine
                ∙ ((alike.each i).values ∙ (sym (ap (λ t. t.values) whole) ∙ ap (λ (g : List TotalsOf). (get_or g i no_totals).values) shown.same)));
            sum = here.sum ∙ (ap (λ t. t.sum) mine
                ∙ ((alike.each i).sum ∙ (sym (ap (λ t. t.sum) whole) ∙ ap (λ (g : List TotalsOf). (get_or g i no_totals).sum) shown.same)));
            least = λ wanted. absurd (true≢false (sym wanted));
            greatest = λ wanted. absurd (true≢false (sym wanted));
            within = here.within;
          };
    }
