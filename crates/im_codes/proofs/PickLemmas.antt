-- Codes of the values at places of a list.
use Rattle.std.proofs.Common.{◌≡◌, ◌≢◌, ℕ, zero, suc, ◌+◌, ◌<◌, ◌≤◌, Bool, true, false, List, [], ◌∷◌, ◌++◌, length, map, set, take, get_or, All, Contains, ⊎_elim, sym, refl, ap, ◌∙◌, arith, append_assoc, append-nil}
use Rattle.std.specs.Bool.{OnTrue}
use Rattle.std.proofs.lemmas.Bool.{cases_eq}
use Rattle.std.proofs.lemmas.List.{length-map, length-append, get_or-map, get_or_default, get_or-set_other, map_push, take_more, take_all}
use Rattle.std.proofs.lemmas.List.Elements.{All-push, Contains-append_left, Contains-push}
use denote.Ref.{Bor}
use Rattle.im_values.specs.declared.content.Content.{Content as Value}
use Rattle.im_values.specs.declared.content.Content.TheVariants.{Null}
use Rattle.im_codes.specs.Dictionary.{coded, lent, present, values_at, StandAt, AreCodesOf, IsDictionary, IsDictionaryOf}
use Rattle.im_codes.proofs.NumberingLemmas.{held-present, length-lent, present-held, some-present, stand-through}

-- codes stand for their values, and no more
pub stand-base : (values list : List Value) (places : List ℕ) → All (λ p. p < length list) places → StandAt (values_at list places ++ take 0 values) list places
stand-base values list places inside = record { same = sym (append-nil (values_at list places)); inside = inside }

-- one value more behind them
pub stand-behind : (base values list : List Value) (places : List ℕ) (i p : ℕ) (value : Value) → i < length values → value ≡ get_or values i value →
    StandAt (base ++ take i values) list places → p < length list → get_or list p Null ≡ value → StandAt (base ++ take (i + 1) values) list (places ++ p ∷ [])
stand-behind base values list places i p value inside is stand here same = record {
  same = map_push (λ p. get_or list p Null) places p
      ∙ (ap (λ l. l ++ get_or list p Null ∷ []) stand.same
      ∙ (ap (λ x. (base ++ take i values) ++ x ∷ []) (same ∙ is)
      ∙ (append_assoc base (take i values) (get_or values i value ∷ []) ∙ ap (λ l. base ++ l) (sym (take_more values i value inside)))));
  inside = All-push (λ p. p < length list) places p stand.inside here;
}

-- all of them
pub stand-end : (base values list : List Value) (places : List ℕ) (i : ℕ) → length values ≤ i → StandAt (base ++ take i values) list places →
    StandAt (base ++ values) list places
stand-end base values list places i past stand = record { same = stand.same ∙ ap (λ l. base ++ l) (take_all i values past); inside = stand.inside }

-- as many codes as values
pub stand-long : (values list : List Value) (places : List ℕ) → StandAt values list places → length values ≡ length places
stand-long values list places stand = ap length (sym stand.same) ∙ length-map places (λ p. get_or list p Null)

-- the values of so many codes, and lent values behind them
pub length-stock : (list : List Value) (codes : List ℕ) (fresh : List (Bor Value)) →
    length (values_at list codes ++ lent fresh) ≡ length codes + length fresh
length-stock list codes fresh =
    let whole = length-append (values_at list codes) (lent fresh) in
    omega (arith, whole, length-map codes (λ p. get_or list p Null), length-lent fresh)

-- the codes at places stand for the values at these places
pub stand-picked : (values list : List Value) (codes places : List ℕ) → StandAt values list codes → All (λ p. p < length values) places →
    StandAt (values_at values places) list (map (λ n. get_or codes n 0) places)
stand-picked values list codes places stand inside = stand-through (values_at values places) values list places codes record { same = refl; inside = inside } stand

-- a dictionary whose codes are all used is that of the values
pub dictionary-used : (values dict : List Value) (codes : List ℕ) → IsDictionary dict → AreCodesOf values dict codes →
    ((code : ℕ) → 0 < code → code ≤ length dict → Contains codes code) → IsDictionaryOf values dict
dictionary-used values dict codes is stand uses = record { sorted = is.sorted; only = only; all = all }
  where
    long : length values ≡ length codes
    long = stand-long values (coded dict) codes stand

    -- the value at a place, by its code
    at : (j code : ℕ) (value : Value) → j < length codes → get_or codes j code ≡ code → get_or values j value ≡ get_or (coded dict) code Null
    at j code value inside is_code =
        ap (λ l. get_or l j value) (sym stand.same)
        ∙ (get_or-map (λ p. get_or (coded dict) p Null) codes j code value inside ∙ ap (λ n. get_or (coded dict) n Null) is_code)

    only : (value : Value) → Contains dict value → Contains (present values) value
    only value (k, inside, found) =
        let used : Contains codes (suc k) = uses (suc k) (omega arith) (omega (arith, inside)) in
        let same : get_or dict k Null ≡ value = get_or_default dict k Null value inside ∙ found in
        held-present values value (used.0, omega (arith, used.1, long), at used.0 (suc k) value used.1 used.2 ∙ same)
        (λ null. is.some k Null inside (same ∙ null))

    by : (code : ℕ) (value : Value) → value ≢ Null → code < length (coded dict) → get_or (coded dict) code Null ≡ value → Contains dict value
    by zero value some inside found = absurd (some (sym found))
    by (suc c) value some inside found =
        let below : c < length dict = omega (arith, inside) in
        (c, below, get_or_default dict c value Null below ∙ found)

    all : (value : Value) → Contains (present values) value → Contains dict value
    all value held =
        let was : Contains values value = present-held values value held in
        let there : was.0 < length codes = omega (arith, was.1, long) in
        let code = get_or codes was.0 0 in
        by code value (some-present values value held) (stand.inside was.0 0 there)
        (sym (at was.0 code value there (get_or_default codes was.0 code 0 there)) ∙ was.2)

-- one code more is marked
pub used-more : (used : List Bool) (codes : List ℕ) (i code : ℕ) → i < length codes → code ≡ get_or codes i 0 →
    ((c : ℕ) → get_or used c false ≡ true → Contains (take i codes) c) → (c : ℕ) → get_or (set used code true) c false ≡ true →
    Contains (take (i + 1) codes) c
used-more used codes i code inside is before c marked =
    let more : take (i + 1) codes ≡ take i codes ++ code ∷ [] = take_more codes i 0 inside ∙ ap (λ x. take i codes ++ x ∷ []) (sym is) in
    rw more
    (⊎_elim (λ (same : c ≡ code). rw same (Contains-push (take i codes) code))
    (λ (apart : c ≡ code → ⊥). Contains-append_left (take i codes) (code ∷ []) c
    (before c (sym (get_or-set_other used code c true false apart) ∙ marked)))
    (cases_eq c code))

-- where each flag behind the first is set, each code is there
pub all-used : (b : Bool) (used : List Bool) (codes : List ℕ) (greatest : ℕ) → length used ≡ greatest + 1 →
    OnTrue b ((c : ℕ) → 0 < c → c < length used → get_or used c true ≡ true) → ((c : ℕ) → get_or used c false ≡ true → Contains codes c) →
    OnTrue b ((c : ℕ) → 0 < c → c ≤ greatest → Contains codes c)
all-used true used codes greatest size all marks = λ c some most.
    let inside : c < length used = omega arith in
    marks c (get_or_default used c false true inside ∙ all c some inside)
all-used false used codes greatest size all marks = all

-- the codes at places of codes that stand for a list
pub picked-codes : (dict : List Value) (codes stock places picked : List ℕ) (fresh : List (Bor Value)) →
    AreCodesOf (values_at (coded dict) codes ++ lent fresh) dict stock → All (λ p. p < length codes + length fresh) places →
    picked ≡ map (λ n. get_or stock n 0) places → AreCodesOf (values_at (values_at (coded dict) codes ++ lent fresh) places) dict picked
picked-codes dict codes stock places picked fresh stand inside is =
    let values = values_at (coded dict) codes ++ lent fresh in
    rw is
    (stand-picked values (coded dict) stock places stand (λ k d within. omega (arith, inside k d within, length-stock (coded dict) codes fresh)))
