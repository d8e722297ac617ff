-- What is known of values, and the words of a run of rows.
use Rattle.std.proofs.Common.{◌≡◌, ℕ, zero, suc, ◌+◌, ◌-◌, ◌*◌, ◌^◌, ◌<◌, ◌≤◌, min, Bool, false, cond, List, [], ◌∷◌, length, take, drop, map, get_or, ⊎_elim, refl, sym, ap, subst, ◌∙◌, arith, length-drop, length-take, get_or-drop, lt_of_lt_of_le}
use Rattle.std.proofs.Math.Nat.{pow-le-pow_right}
use Rattle.std.proofs.lemmas.Bool.{cases_lt}
use Rattle.std.proofs.lemmas.List.{length-map, get_or-map, take_all}
use Rattle.im_values.specs.declared.content.Content.{Content as Value}
use Rattle.im_values.specs.declared.content.Content.TheVariants.{Int}
use Rattle.im_codepred.specs.declared.numbers.Known.{Known}
use Rattle.im_codepred.specs.declared.numbers.Known.TheVariants as known
use Rattle.im_codepred.specs.inner.Numbers.{IsKnown}
use Rattle.im_lanes.specs.Masks.{word_at, word_of, words_of}
use Rattle.im_lanes.proofs.ForCallers.{word_of-few, words-more, words-all}
use Rattle.std.specs.Int.{div_ceil}
use Rattle.std.proofs.lemmas.Grind.{div_ceil_times}

-- two tests that say the same
pub map_all : {A B : Type 0} (f g : A → B) (xs : List A) → ((x : A) → f x ≡ g x) → map f xs ≡ map g xs
map_all f g [] same = refl
map_all f g (x ∷ xs) same = rw (same x, map_all f g xs same) refl

-- what is known for one test is known for another that says the same
pub known-same : (k : Known) (p q : Value → Bool) → ((x : Value) → p x ≡ q x) → IsKnown k p → IsKnown k q
known-same (known.Numbers numbers) p q same is = λ x low high. is x low high ∙ same (Int x)
known-same (known.Same other) p q same is = λ x. is x ∙ same x
known-same known.Nothing p q same is = is

-- the bit of a row in the word of its place
pub bit-at : {A : Type 0} (p : A → Bool) (rows : List A) (first i : ℕ) (d : A) → first + i < length rows →
    p (get_or rows (first + i) d) ≡ get_or (drop first (map p rows)) i false
bit-at p rows first i d inside = sym (get_or-drop first (map p rows) i false ∙ get_or-map p rows (first + i) d false inside)

-- it lies among the bits from there on
pub bit-within : {A : Type 0} (p : A → Bool) (rows : List A) (first i : ℕ) → first + i < length rows → i < length (drop first (map p rows))
bit-within p rows first i inside = omega (arith, length-drop first (map p rows), length-map rows p, inside)

-- the bits up to the 64th, or to the last
pub word-whole : (bits : List Bool) (place i word : ℕ) → i ≡ min (length bits - place * 64) 64 → word ≡ word_of (take i (drop (place * 64) bits)) → word ≡ word_at bits place
word-whole bits place i word end is =
    let rest = drop (place * 64) bits in
    let size = length-drop (place * 64) bits in
    is
    ∙ ⊎_elim (λ (h : length rest < 64).
    let all : i ≡ length rest = omega (arith, end, size, h) in
    ap word_of (take_all i rest (omega (arith, all)) ∙ sym (take_all 64 rest (omega (arith, h)))))
    (λ (h : 64 ≤ length rest).
    let full : i ≡ 64 = omega (arith, end, size, h) in
    ap (λ n. word_of (take n rest)) full)
    (cases_lt (length rest) 64)

-- a word has no bit past its last one
pub word-below : (bits : List Bool) → word_of bits < 2 ^ length bits
word-below bits =
    let whole : take (length bits) bits ≡ bits = take_all (length bits) bits (omega arith) in
    let P : List Bool → Type 0 = λ b. word_of b < 2 ^ length bits in
    subst P whole (word_of-few bits (length bits))

-- and a word of fewer than 64 bits is below 2^63
pub word-few : (bits : List Bool) (first count left word : ℕ) → count ≤ 64 → 0 < left → word ≡ word_of (drop left (take count (drop first bits))) → word < 2 ^ 63
word-few bits first count left word short some is =
    let part = drop left (take count (drop first bits)) in
    let long : length part ≤ 63 =
    omega (arith, length-drop left (take count (drop first bits)), length-take count (drop first bits), short, some) in
    rw is (lt_of_lt_of_le (word-below part) (pow-le-pow_right (omega arith) long))

-- one bit more below those behind it
pub word-under : (bits : List Bool) (i word : ℕ) (b : Bool) → i < length bits → word ≡ word_of (drop (i + 1) bits) → b ≡ get_or bits i false →
    word * 2 + cond b 1 0 ≡ word_of (drop i bits)
word-under [] i word b inside is here = absurd (omega (arith, inside))
word-under (x ∷ bits) zero word b inside is here = rw (is, here) (omega arith)
word-under (x ∷ bits) (suc i) word b inside is here =
    let next : suc i + 1 ≡ suc (i + 1) = omega arith in
    word-under bits i word b (omega (arith, inside)) (is ∙ ap (λ n. word_of (drop n (x ∷ bits))) next) here

-- the one word of few bits
pub one-word : (bits : List Bool) (word : ℕ) → 0 < length bits → length bits ≤ 64 → word ≡ word_of bits → word ∷ [] ≡ words_of bits
one-word bits word some few is =
    let one : div_ceil (length bits) 64 ≡ 1 = omega (arith, (div_ceil_times (length bits) 64 (omega arith)).0, (div_ceil_times (length bits) 64 (omega arith)).1, some, few) in
    let whole : word ≡ word_at bits 0 = is ∙ sym (ap word_of (take_all 64 bits few)) in
    words-all bits 1 (word ∷ []) (omega (arith, one)) (words-more bits 0 [] word (omega (arith, one)) refl whole)
