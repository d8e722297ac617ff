-- Values that are picked from a column's and from fresh ones.
use Rattle.std.proofs.Common.{◌≡◌, ℕ, ◌+◌, ◌-◌, ◌*◌, ◌<◌, ◌≤◌, Bool, true, false, List, [], ◌∷◌, ◌++◌, length, map, take, drop, get_or, slice_get, Some, All, sym, refl, ap, ◌∙◌, arith}
use Rattle.std.specs.Bool.{OnTrue}
use Rattle.std.specs.Ordering.{is_eq}
use Rattle.std.specs.declared.cmp.Ordering.{Ordering}
use Rattle.std.specs.declared.cmp.Ordering.TheVariants.{Less, Equal, Greater}
use Rattle.std.proofs.lemmas.Option.{get_or_from_slice_get}
use Rattle.std.proofs.lemmas.List.{ext_get_or, get_or_append_left, get_or-append_right, get_or-map, length-append, length-map, map_more}
use Rattle.std.proofs.lemmas.List.Elements.{All-append, All-get_or, All-map}
use Rattle.std.proofs.Math.Seq.{take-add}
use denote.Ref.{Bor}
use Rattle.im_values.specs.declared.content.Content.{Content as Value}
use Rattle.im_values.specs.declared.content.Content.TheVariants.{Null}
use Rattle.im_values.specs.Order.{order}
use Rattle.im_values.proofs.ForCallers.{order_same}
use Rattle.im_codes.specs.Dictionary.{lent, values_at}
use Rattle.im_column.specs.Forms.{IsShort}
use Rattle.im_column.specs.Picks.{values_picked}

pub length-fresh : (fresh : List (Bor Value)) → length (lent fresh) ≡ length fresh
length-fresh fresh = length-map fresh (λ (value : Bor Value). value.now)

-- the values picked from short ones are short
pub short-picked : (old fresh : List Value) (places : List ℕ) → All IsShort old → All IsShort fresh → All (λ p. p < length old + length fresh) places →
    All IsShort (values_picked old fresh places)
short-picked old fresh places short_old short_fresh inside =
    All-map IsShort (λ p. get_or (old ++ fresh) p Null) places
    (λ k d within.
    All-get_or IsShort (old ++ fresh) (get_or places k d) Null (omega (arith, length-append old fresh, inside k d within))
    (All-append IsShort old fresh short_old short_fresh))

-- a place of the old values, and one behind them
pub stock-old : (old fresh : List Value) (place : ℕ) (value : Value) → place < length old → get_or old place Null ≡ value →
    value ≡ get_or (old ++ fresh) place Null
stock-old old fresh place value inside is = sym is ∙ sym (get_or_append_left old fresh Null place inside)

pub stock-fresh : (old : List Value) (fresh : List (Bor Value)) (place at : ℕ) (value : Bor Value) → length old ≤ place → at ≡ place - length old →
    at < length fresh → value ≡ get_or fresh at value → value.now ≡ get_or (old ++ lent fresh) place Null
stock-fresh old fresh place at value behind is inside found =
    ap (λ (v : Bor Value). v.now) found
    ∙ (sym (get_or-map (λ (v : Bor Value). v.now) fresh at value Null inside)
    ∙ (ap (λ n. get_or (lent fresh) n Null) is ∙ sym (get_or-append_right old (lent fresh) (length old) place Null refl behind)))

-- where each value stays, they are the old ones
pub all-stay : (old fresh : List Value) (places : List ℕ) (i : ℕ) → length places ≡ length old → length places ≤ i →
    ((k : ℕ) → k < i → get_or (old ++ fresh) (get_or places k 0) Null ≡ get_or old k Null) → values_picked old fresh places ≡ old
all-stay old fresh places i long past stay =
    let f = λ (p : ℕ). get_or (old ++ fresh) p Null in
    let same : length (values_picked old fresh places) ≡ length places = length-map places f in
    ext_get_or Null (values_picked old fresh places) old (same ∙ long)
    (λ k inside.
    let within : k < length places = omega (arith, same, inside) in
    get_or-map f places k 0 Null within ∙ stay k (omega arith))

-- one copy more
pub copies-more : (old fresh values longer : List Value) (places : List ℕ) (i : ℕ) (value : Value) → i < length places →
    value ≡ get_or (old ++ fresh) (get_or places i 0) Null → values ≡ values_picked old fresh (take i places) → longer ≡ values ++ value ∷ [] →
    longer ≡ values_picked old fresh (take (i + 1) places)
copies-more old fresh values longer places i value inside is so_far more =
    let f = λ (p : ℕ). get_or (old ++ fresh) p Null in
    more
    ∙ (ap (λ (l : List Value). l ++ value ∷ []) so_far
    ∙ (ap (λ (v : Value). map f (take i places) ++ v ∷ []) is ∙ sym (map_more f places i 0 inside)))

-- 64 codes more
pub unpacked-more : (codes unpacked longer share : List ℕ) (place : ℕ) → unpacked ≡ take (place * 64) codes → share ≡ take 64 (drop (place * 64) codes) →
    longer ≡ unpacked ++ share → longer ≡ take ((place + 1) * 64) codes
unpacked-more codes unpacked longer share place so_far is more =
    let next : place * 64 + 64 ≡ (place + 1) * 64 = omega arith in
    more
    ∙ (ap (λ (l : List ℕ). l ++ share) so_far
    ∙ (ap (λ (l : List ℕ). take (place * 64) codes ++ l) is ∙ (sym (take-add (place * 64) 64 codes) ∙ ap (λ n. take n codes) next)))

-- values that tie are one
equal-from : (o : Ordering) → is_eq o ≡ true → o ≡ Equal
equal-from Less e = cc
equal-from Equal e = refl
equal-from Greater e = cc

pub ties : (b : Bool) (x y x' y' : Value) → b ≡ is_eq (order x y) → x ≡ x' → y ≡ y' → OnTrue b (x' ≡ y')
ties true x y x' y' e p q = sym p ∙ (order_same x y (equal-from (order x y) (sym e)) ∙ q)
ties false x y x' y' e p q = tt

-- the value of a code at its place
pub value-at : (list : List Value) (codes : List ℕ) (i : ℕ) (value d : Value) → i < length codes → slice_get list (get_or codes i 0) ≡ Some value →
    value ≡ get_or (values_at list codes) i d
value-at list codes i value d inside got =
    sym (get_or-map (λ p. get_or list p Null) codes i 0 d inside ∙ get_or_from_slice_get list (get_or codes i 0) value Null got)
