-- Where a value stands among the codes of a dictionary, and what is chosen by ranges of codes.
use Rattle.std.proofs.Common.{◌≡◌, ◌≢◌, ℕ, zero, suc, ◌+◌, ◌-◌, ◌<◌, ◌≤◌, ◌&&◌, ◌||◌, Bool, true, false, cond, nat_le, nat_lt, List, [], ◌∷◌, length, map, get_or, All, ⊎_elim, sym, refl, ap, ◌∙◌, arith}
use mir.Val.{bool_byte}
use Rattle.std.specs.declared.cmp.Ordering.{Ordering}
use Rattle.std.specs.declared.cmp.Ordering.TheVariants.{Less, Equal, Greater}
use Rattle.std.specs.Ordering.{is_lt, is_eq, ordering_reverse}
use Rattle.std.proofs.lemmas.Bool.{cases_lt, cases_eq, cases_Bool, lt-leb, le-leb, lt-ltb, le-ltb}
use Rattle.std.proofs.lemmas.List.Elements.{All-head, All-tail}
use Rattle.std.proofs.lemmas.Map.Keys.{Less-from_sorted}
use Rattle.im_values.specs.declared.comparison.Cmp.{Cmp}
use Rattle.im_values.specs.declared.comparison.Cmp.TheVariants.{Eq, Ne, Lt, Le, Gt, Ge}
use Rattle.im_values.specs.declared.truth.Truth.TheVariants.{Yes, No, Unknown}
use Rattle.im_values.specs.declared.content.Content.{Content as Value}
use Rattle.im_values.specs.declared.content.Content.TheVariants.{Int, Text, Null}
use Rattle.im_values.specs.Order.{order, admits, compare, is_null}
use Rattle.im_values.proofs.ForCallers.{order_total}
use Rattle.im_codes.specs.Dictionary.{coded, lower, values_at, IsDictionary}
use Rattle.im_codes.proofs.ForCallers.{value-below}
use Rattle.im_lanes.specs.Masks.{joined, is_within}
use Rattle.im_codepred.specs.declared.asked.Wanted.{Wanted}
use Rattle.im_codepred.specs.declared.asked.Wanted.TheVariants.{Held, Failed}
use Rattle.im_codepred.specs.declared.spans.Place.{Place}
use Rattle.im_codepred.specs.Asked.{met}
use Rattle.im_eval.specs.Holds.{between_truth}
use Rattle.im_codepred.proofs.SelectionLemmas.{met-and, failed-and}
use Rattle.im_codepred.specs.inner.Spans.{opposite, comparison_of, stands, holds_at, between_at, Chooses, IsPlaceOf}

-- a comparison fails where its opposite holds
admits-opposite : (cmp : Cmp) (o : Ordering) → met Failed (cond (admits cmp o) Yes No) ≡ met Held (cond (admits (opposite cmp) o) Yes No)
admits-opposite Eq Less = refl
admits-opposite Eq Equal = refl
admits-opposite Eq Greater = refl
admits-opposite Ne Less = refl
admits-opposite Ne Equal = refl
admits-opposite Ne Greater = refl
admits-opposite Lt Less = refl
admits-opposite Lt Equal = refl
admits-opposite Lt Greater = refl
admits-opposite Le Less = refl
admits-opposite Le Equal = refl
admits-opposite Le Greater = refl
admits-opposite Gt Less = refl
admits-opposite Gt Equal = refl
admits-opposite Gt Greater = refl
admits-opposite Ge Less = refl
admits-opposite Ge Equal = refl
admits-opposite Ge Greater = refl

opposite-unless : (none : Bool) (cmp : Cmp) (o : Ordering) →
    met Failed (cond none Unknown (cond (admits cmp o) Yes No)) ≡ met Held (cond none Unknown (cond (admits (opposite cmp) o) Yes No))
opposite-unless true cmp o = refl
opposite-unless false cmp o = admits-opposite cmp o

pub met-comparison : (w : Wanted) (cmp : Cmp) (a b : Value) → met w (compare a cmp b) ≡ met Held (compare a (comparison_of w cmp) b)
met-comparison Held cmp a b = refl
met-comparison Failed cmp a b = opposite-unless (is_null a || is_null b) cmp (order a b)

-- ---- the place of a value

-- how a value stands, by whether it is below and whether it is the same
stands-so : (o : Ordering) → is_lt o ≡ false → is_eq o ≡ false → o ≡ Greater
stands-so Less below same = cc
stands-so Equal below same = cc
stands-so Greater below same = refl

is-less : (o : Ordering) → is_lt o ≡ true → o ≡ Less
is-less Less e = refl
is-less Equal e = cc
is-less Greater e = cc

is-equal : (o : Ordering) → is_eq o ≡ true → o ≡ Equal
is-equal Less e = cc
is-equal Equal e = refl
is-equal Greater e = cc

-- what stands behind a value that is not below another is above it
above-behind : (a b v : Value) → is_lt (order a v) ≡ false → order a b ≡ Less → order b v ≡ Greater
above-behind a b v not_below less =
    let back : order v b ≡ Less =
    ⊎_elim (λ (h : is_eq (order a v) ≡ true). sym (order_total.congr a v b (is-equal (order a v) h)) ∙ less)
    (λ (h : is_eq (order a v) ≡ false).
    let up : order v a ≡ Less = order_total.antisymm v a ∙ ap ordering_reverse (stands-so (order a v) not_below h) in
    order_total.trans v a b up less)
    (cases_Bool (is_eq (order a v))) in
    order_total.antisymm b v ∙ ap ordering_reverse back

-- how each value of a dictionary stands to one
pub order-stands : (dict : List Value) (value : Value) (place : Place) (k : ℕ) → IsDictionary dict → place.low ≡ lower dict value →
    place.end ≡ place.low + cond (nat_le place.low (length dict) && is_eq (order (get_or (coded dict) place.low Null) value)) 1 0 → k < length dict →
    order (get_or dict k Null) value ≡ stands place (k + 1)
order-stands dict value place k is low end inside =
    let o = order (get_or dict k Null) value in
    let below : is_lt o ≡ nat_lt (k + 1) place.low = value-below dict value k Null is inside ∙ ap (nat_lt (k + 1)) (sym low) in
    let first : place.low ≡ suc (place.low - 1) = omega (arith, low) in
    let at : get_or (coded dict) place.low Null ≡ get_or dict (place.low - 1) Null = ap (λ n. get_or (coded dict) n Null) first in
    ⊎_elim (λ (h : k + 1 < place.low). rw (lt-ltb (k + 1) place.low h) (is-less o (below ∙ lt-ltb (k + 1) place.low h)))
    (λ (h : place.low ≤ k + 1).
    let not_below : is_lt o ≡ false = below ∙ le-ltb (k + 1) place.low h in
    let there : nat_le place.low (length dict) ≡ true = le-leb place.low (length dict) (omega (arith, h, inside)) in
    let ends : place.end ≡ place.low + cond (is_eq (order (get_or dict (place.low - 1) Null) value)) 1 0 =
    end ∙ ap (λ b. place.low + cond (b && is_eq (order (get_or (coded dict) place.low Null) value)) 1 0) there
    ∙ ap (λ v. place.low + cond (is_eq (order v value)) 1 0) at in
    let here = order (get_or dict (place.low - 1) Null) value in
    rw (le-ltb (k + 1) place.low h)
    (⊎_elim (λ (same : k ≡ place.low - 1).
    let is_here : o ≡ here = ap (λ n. order (get_or dict n Null) value) same in
    ⊎_elim (λ (e : is_eq here ≡ true).
    let past : place.end ≡ place.low + 1 = ends ∙ ap (λ b. place.low + cond b 1 0) e in
    rw (lt-ltb (k + 1) place.end (omega (arith, past, same, first, low))) (is_here ∙ is-equal here e))
    (λ (e : is_eq here ≡ false).
    let past : place.end ≡ place.low + 0 = ends ∙ ap (λ b. place.low + cond b 1 0) e in
    rw (le-ltb (k + 1) place.end (omega (arith, past, h))) (stands-so o not_below (ap is_eq is_here ∙ e)))
    (cases_Bool (is_eq here)))
    (λ (other : k ≢ place.low - 1).
    let before : place.low - 1 < k = omega (arith, other, h, low) in
    let up : order (get_or dict (place.low - 1) Null) (get_or dict k Null) ≡ Less = Less-from_sorted order dict (place.low - 1) k Null is.sorted before inside in
    let first_below : is_lt here ≡ false =
    value-below dict value (place.low - 1) Null is (omega (arith, before, inside))
    ∙ le-ltb (place.low - 1 + 1) (lower dict value) (omega (arith, low)) in
    let most : place.end ≤ place.low + 1 =
    ⊎_elim (λ (e : is_eq here ≡ true). omega (arith, ends ∙ ap (λ b. place.low + cond b 1 0) e))
    (λ (e : is_eq here ≡ false). omega (arith, ends ∙ ap (λ b. place.low + cond b 1 0) e)) (cases_Bool (is_eq here)) in
    rw (le-ltb (k + 1) place.end (omega (arith, most, before))) (above-behind (get_or dict (place.low - 1) Null) (get_or dict k Null) value first_below up))
    (cases_eq k (place.low - 1))))
    (cases_lt (k + 1) place.low)

some-is : (v : Value) → v ≢ Null → is_null v ≡ false
some-is (Int n) some = refl
some-is (Text t) some = refl
some-is Null some = absurd (some refl)

met-plain : (b : Bool) → met Held (cond b Yes No) ≡ b
met-plain true = refl
met-plain false = refl

compares-with : (cmp : Cmp) (a b : Value) → is_null a ≡ false → is_null b ≡ false → met Held (compare a cmp b) ≡ admits cmp (order a b)
compares-with cmp a b left right =
    ap (λ n. met Held (cond (n || is_null b) Unknown (cond (admits cmp (order a b)) Yes No))) left
    ∙ (ap (λ n. met Held (cond n Unknown (cond (admits cmp (order a b)) Yes No))) right ∙ met-plain (admits cmp (order a b)))

compares-code : (dict : List Value) (value : Value) (place : Place) → IsDictionary dict → value ≢ Null → place.low ≡ lower dict value →
    place.end ≡ place.low + cond (nat_le place.low (length dict) && is_eq (order (get_or (coded dict) place.low Null) value)) 1 0 →
    place.most ≡ length dict + 1 → (cmp : Cmp) (code : ℕ) → code < length (coded dict) →
    met Held (compare (get_or (coded dict) code Null) cmp value) ≡ holds_at place cmp code
compares-code dict value place is some low end most cmp zero inside = refl
compares-code dict value place is some low end most cmp (suc k) inside =
    let within : k < length dict = omega (arith, inside) in
    let one : suc k ≡ k + 1 = omega arith in
    let present : is_null (get_or dict k Null) ≡ false = some-is (get_or dict k Null) (is.some k Null within) in
    compares-with cmp (get_or dict k Null) value present (some-is value some)
    ∙ (ap (admits cmp) (order-stands dict value place k is low end within)
    ∙ rw (one, le-leb 1 (k + 1) (omega arith), lt-ltb (k + 1) place.most (omega (arith, most, within))) refl)

-- the end of the codes of a value that are there
end-most : (low n : ℕ) (b : Bool) → low ≤ n + 1 → low + cond (nat_le low n && b) 1 0 ≤ n + 1
end-most low n true most =
    ⊎_elim (λ (h : low < n + 1). rw (le-leb low n (omega (arith, h))) (omega (arith, h)))
    (λ (h : n + 1 ≤ low). rw (lt-leb low n (omega (arith, h))) (omega (arith, most))) (cases_lt low (n + 1))
end-most low n false most =
    ⊎_elim (λ (h : low < n + 1). rw (le-leb low n (omega (arith, h))) (omega (arith, h)))
    (λ (h : n + 1 ≤ low). rw (lt-leb low n (omega (arith, h))) (omega (arith, most))) (cases_lt low (n + 1))

-- the place of a value
pub place-is : (dict : List Value) (value : Value) (place : Place) → IsDictionary dict → value ≢ Null → place.low ≡ lower dict value →
    place.low ≤ length dict + 1 →
    place.end ≡ place.low + cond (nat_le place.low (length dict) && is_eq (order (get_or (coded dict) place.low Null) value)) 1 0 →
    place.most ≡ length dict + 1 → IsPlaceOf dict value place
place-is dict value place is some low high end most = record {
  in_order = record {
    some = omega (arith, low);
    order = omega (arith, end);
    last = rw (end, most) (end-most place.low (length dict) (is_eq (order (get_or (coded dict) place.low Null) value)) high);
  };
  compares = λ cmp code inside. compares-code dict value place is some low end most cmp code inside;
}

-- a value lies between two, or is known not to, by their places
pub met-between : (w : Wanted) (a b : Place) (dict : List Value) (low high : Value) (code : ℕ) → code < length (coded dict) → IsPlaceOf dict low a →
    IsPlaceOf dict high b → between_at w a b code ≡ met w (between_truth (get_or (coded dict) code Null) low high)
met-between Held a b dict low high code inside is_a is_b =
    let v = get_or (coded dict) code Null in
    sym (met-and (compare v Ge low) (compare v Le high) ∙ (ap (λ x. x && met Held (compare v Le high)) (is_a.compares Ge code inside)
    ∙ ap (λ x. holds_at a Ge code && x) (is_b.compares Le code inside)))
met-between Failed a b dict low high code inside is_a is_b =
    let v = get_or (coded dict) code Null in
    sym (failed-and (compare v Ge low) (compare v Le high) ∙ (ap (λ x. x || met Failed (compare v Le high)) (met-comparison Failed Ge v low ∙ is_a.compares Lt code inside)
    ∙ ap (λ x. holds_at a Lt code || x) (met-comparison Failed Le v high ∙ is_b.compares Gt code inside)))

-- a truth value as a number
pub byte-is : (b : Bool) → bool_byte b ≡ cond b 1 0
byte-is true = refl
byte-is false = refl

pub byte-few : (b : Bool) → bool_byte b ≤ 1
byte-few true = omega arith
byte-few false = omega arith

-- ---- what is chosen

-- the codes that are chosen are those of the values that pass
pub chosen-codes : (chosen : ℕ → Bool) (passes : Value → Bool) (dict : List Value) (codes : List ℕ) → Chooses chosen passes dict →
    All (λ code. code < length (coded dict)) codes → map chosen codes ≡ map passes (values_at (coded dict) codes)
chosen-codes chosen passes dict [] says inside = refl
chosen-codes chosen passes dict (code ∷ codes) says inside =
    let here = says code (All-head (λ c. c < length (coded dict)) code codes inside) in
    let rest = chosen-codes chosen passes dict codes says (All-tail (λ c. c < length (coded dict)) code codes inside) in
    rw (here, rest) refl

-- two masks of the same codes, one of which is chosen
pub either-codes : (p q r : ℕ → Bool) (codes : List ℕ) → ((code : ℕ) → r code ≡ (p code || q code)) →
    joined (λ a b. a || b) (map p codes) (map q codes) ≡ map r codes
either-codes p q r [] each = refl
either-codes p q r (code ∷ codes) each = rw (each code, either-codes p q r codes each) refl

pub first-codes : (p r : ℕ → Bool) (codes : List ℕ) → ((code : ℕ) → p code ≡ r code) → map p codes ≡ map r codes
first-codes p r [] each = refl
first-codes p r (code ∷ codes) each = rw (each code, first-codes p r codes each) refl

-- no number lies in a range that ends before it begins
pub within-empty : (low end code : ℕ) (b : Bool) → end ≤ low → b ≡ (b || is_within low end code)
within-empty low end code true empty = refl
within-empty low end code false empty =
    ⊎_elim (λ (h : code < low). rw (lt-leb low code h) refl) (λ (h : low ≤ code). rw (le-leb low code h, le-ltb code end (omega (arith, h, empty))) refl) (cases_lt code low)
