-- The elements at the bits of words, and the chosen ones of lists.
use Rattle.std.proofs.Common.{◌≡◌, ℕ, zero, suc, ◌+◌, ◌-◌, ◌*◌, ◌/◌, ◌%◌, ◌^◌, ◌<◌, ◌≤◌, min, Bool, true, false, cond, eqb, List, [], ◌∷◌, ◌++◌, length, take, drop, get_or, fold, bit_and, sym, refl, ap, subst, ◌∙◌, arith, length-take, length-drop, get_or-take, get_or-drop}
use lib.Bits.{and_step, and_self, and_le_r}
use Rattle.std.proofs.Math.Nat.{pow-suc}
use Rattle.std.specs.Int.{bit_at, div_ceil}
use Rattle.std.proofs.lemmas.List.{drop-drop, take_all, drop_all, same_lists, get_or_default}
use Rattle.std.proofs.lemmas.List.Sums.{fold-append}
use Rattle.std.proofs.lemmas.Nat.Bits.{bit_at_lowest, bit_at-suc, bit_at-zero}
use Rattle.std.proofs.lemmas.Grind.{div_ceil_times}
use Rattle.im_lanes.specs.Masks.{word_of, word_at, words_of}
use Rattle.im_lanes.proofs.ForCallers.{word_of-few, get_or-words_of}
use Rattle.im_codepred.specs.Tallies.{chosen}
use Rattle.im_codepred.specs.inner.Tallying.{at_bits, IsLeft}

-- ---- a word without its lowest bit

cleared-odd : (w : ℕ) → w % 2 ≡ 1 → bit_and w (w - 1) ≡ w / 2 * 2
cleared-odd w odd =
    let half : (w - 1) / 2 ≡ w / 2 = omega arith in
    let even : (w - 1) % 2 ≡ 0 = omega arith in
    and_step w (w - 1)
    ∙ (ap (λ h. bit_and (w / 2) h * 2 + min (w % 2) ((w - 1) % 2)) half
    ∙ (ap (λ h. h * 2 + min (w % 2) ((w - 1) % 2)) (and_self (w / 2)) ∙ (ap (λ r. w / 2 * 2 + min (w % 2) r) even ∙ omega (arith, odd))))

cleared-even : (w : ℕ) → 0 < w → w % 2 ≡ 0 → bit_and w (w - 1) ≡ bit_and (w / 2) (w / 2 - 1) * 2
cleared-even w some even =
    let half : (w - 1) / 2 ≡ w / 2 - 1 = omega arith in
    and_step w (w - 1)
    ∙ (ap (λ h. bit_and (w / 2) h * 2 + min (w % 2) ((w - 1) % 2)) half ∙ omega (arith, even))

-- where a bit is set, there is an element
pub bit-inside : {A : Type 0} (xs : List A) (w k : ℕ) → w < 2 ^ length xs → bit_at w k ≡ 1 → k < length xs
bit-inside [] w k few set =
    let none : w ≡ 0 = omega (arith, few) in
    absurd (omega (arith, sym (bit_at-zero k) ∙ (ap (λ n. bit_at n k) (sym none) ∙ set)))
bit-inside (x ∷ xs) w zero few set = omega arith
bit-inside (x ∷ xs) w (suc k) few set =
    let half : w / 2 < 2 ^ length xs = omega (arith, few, pow-suc 2 (length xs)) in
    let rest = bit-inside xs (w / 2) k half (sym (bit_at-suc w k) ∙ set) in
    omega (arith, rest)

-- the element at the lowest bit, and those at the others
pub at_bits-next : {A : Type 0} (xs : List A) (w k : ℕ) (d : A) → 0 < w → w < 2 ^ length xs → bit_at w k ≡ 1 → ((i : ℕ) → i < k → bit_at w i ≡ 0) →
    at_bits w xs ≡ get_or xs k d ∷ at_bits (bit_and w (w - 1)) xs
at_bits-next [] w k d some few set low = absurd (omega (arith, few))
at_bits-next (x ∷ xs) w zero d some few set low =
    let odd : w % 2 ≡ 1 = sym (bit_at_lowest w) ∙ set in
    let is = cleared-odd w odd in
    let last : bit_and w (w - 1) % 2 ≡ 0 = omega (arith, is) in
    let half : bit_and w (w - 1) / 2 ≡ w / 2 = omega (arith, is) in
    rw (odd, last, half) refl
at_bits-next (x ∷ xs) w (suc k) d some few set low =
    let even : w % 2 ≡ 0 = sym (bit_at_lowest w) ∙ low 0 (omega arith) in
    let is = cleared-even w some even in
    let last : bit_and w (w - 1) % 2 ≡ 0 = omega (arith, is) in
    let half : bit_and w (w - 1) / 2 ≡ bit_and (w / 2) (w / 2 - 1) = omega (arith, is) in
    let more : 0 < w / 2 = omega (arith, some, even) in
    let short : w / 2 < 2 ^ length xs = omega (arith, few, pow-suc 2 (length xs)) in
    let rest =
    at_bits-next xs (w / 2) k d more short (sym (bit_at-suc w k) ∙ set) (λ i h. sym (bit_at-suc w i) ∙ low (suc i) (omega (arith, h))) in
    rw (even, last, half) rest

pub at_bits-none : {A : Type 0} (xs : List A) → at_bits 0 xs ≡ []
at_bits-none [] = refl
at_bits-none (x ∷ xs) = at_bits-none xs

pub length-at_bits : {A : Type 0} (w : ℕ) (xs : List A) → length (at_bits w xs) ≤ length xs
length-at_bits w [] = omega arith
length-at_bits w (x ∷ xs) =
    elim (eqb (w % 2) 1) as (λ b. length (cond b (x ∷ at_bits (w / 2) xs) (at_bits (w / 2) xs)) ≤ length (x ∷ xs)) [
      | true ↦ omega (arith, length-at_bits (w / 2) xs)
      | false ↦ omega (arith, length-at_bits (w / 2) xs)
    ]

-- ---- chosen elements

pub chosen-none : {A : Type 0} (mask : List Bool) → chosen {A = A} mask [] ≡ []
chosen-none [] = refl
chosen-none (b ∷ mask) = refl

-- the bits of the word of a mask choose what the mask does
pub at_bits-word_of : {A : Type 0} (mask : List Bool) (xs : List A) → at_bits (word_of mask) xs ≡ chosen mask xs
at_bits-word_of [] xs = at_bits-none xs
at_bits-word_of (b ∷ mask) [] = refl
at_bits-word_of (true ∷ mask) (x ∷ xs) =
    let last : (1 + 2 * word_of mask) % 2 ≡ 1 = omega arith in
    let half : (1 + 2 * word_of mask) / 2 ≡ word_of mask = omega arith in
    rw (last, half, at_bits-word_of mask xs) refl
at_bits-word_of (false ∷ mask) (x ∷ xs) =
    let last : (0 + 2 * word_of mask) % 2 ≡ 0 = omega arith in
    let half : (0 + 2 * word_of mask) / 2 ≡ word_of mask = omega arith in
    rw (last, half, at_bits-word_of mask xs) refl

-- what is chosen of the first, and of those behind
pub chosen-split : {A : Type 0} (n : ℕ) (mask : List Bool) (xs : List A) → chosen mask xs ≡ chosen (take n mask) (take n xs) ++ chosen (drop n mask) (drop n xs)
chosen-split zero mask xs = refl
chosen-split (suc n) [] xs = refl
chosen-split (suc n) (b ∷ mask) [] = sym (chosen-none (drop n mask))
chosen-split (suc n) (true ∷ mask) (x ∷ xs) = ap (λ l. x ∷ l) (chosen-split n mask xs)
chosen-split (suc n) (false ∷ mask) (x ∷ xs) = chosen-split n mask xs

-- by the words of a mask
pub chosen-word : {A : Type 0} (mask : List Bool) (xs : List A) (place : ℕ) → chosen (drop (place * 64) mask) (drop (place * 64) xs) ≡
    at_bits (word_at mask place) (take 64 (drop (place * 64) xs)) ++ chosen (drop ((place + 1) * 64) mask) (drop ((place + 1) * 64) xs)
chosen-word mask xs place =
    let next : place * 64 + 64 ≡ (place + 1) * 64 = omega arith in
    chosen-split 64 (drop (place * 64) mask) (drop (place * 64) xs)
    ∙ (ap (λ l. l ++ chosen (drop 64 (drop (place * 64) mask)) (drop 64 (drop (place * 64) xs)))
    (sym (at_bits-word_of (take 64 (drop (place * 64) mask)) (take 64 (drop (place * 64) xs))))
    ∙ rw (drop-drop 64 (place * 64) mask, drop-drop 64 (place * 64) xs, next) refl)

-- a word of a mask has bits where there are elements
pub word-few : {A : Type 0} (mask : List Bool) (xs : List A) (place : ℕ) → length mask ≡ length xs →
    word_at mask place < 2 ^ length (take 64 (drop (place * 64) xs))
word-few mask xs place same =
    let bits = take 64 (drop (place * 64) mask) in
    let size : length bits ≡ length (take 64 (drop (place * 64) xs)) =
    omega (arith, length-take 64 (drop (place * 64) mask), length-take 64 (drop (place * 64) xs), length-drop (place * 64) mask, length-drop (place * 64) xs, same) in
    let whole : take (length bits) bits ≡ bits = take_all (length bits) bits (omega arith) in
    rw (← size) (let P : List Bool → Type 0 = λ b. word_of b < 2 ^ length bits in subst P whole (word_of-few bits (length bits)))

-- 64 elements that were read from a place on, as many as there are
pub read-share : (xs out : List ℕ) (first left : ℕ) → first < length xs → left ≡ min (length xs - first) 64 → length out ≡ 64 →
    ((k : ℕ) → k < 64 → get_or out k 0 ≡ get_or xs (first + k) 0) → take left out ≡ take 64 (drop first xs)
read-share xs out first left inside is long read =
    let size : length (take left out) ≡ left = omega (arith, length-take left out, is, long) in
    same_lists (take left out) (take 64 (drop first xs)) (omega (arith, size, is, length-take 64 (drop first xs), length-drop first xs)) (λ k d h.
    let low : k < left = omega (arith, size, h) in
    let few : k < 64 = omega (arith, low, is) in
    let there : k < length out = omega (arith, few, long) in
    let within : first + k < length xs = omega (arith, low, is) in
    get_or-take left out k d low
    ∙ (get_or_default out k d 0 there ∙ (read k few ∙ (get_or_default xs (first + k) 0 d within
    ∙ sym (get_or-take 64 (drop first xs) k d few ∙ get_or-drop first xs k d)))))

-- ---- folds over what is left

pub left-all : {A B : Type 0} (step : B → A → B) (xs : List A) (w : ℕ) (now : B) → w < 2 ^ length xs → IsLeft step xs w now (fold step now (at_bits w xs))
left-all step xs w now few = record { few = few; comes = refl }

pub left-next : {A B : Type 0} (step : B → A → B) (xs : List A) (w k : ℕ) (d : A) (now whole : B) → IsLeft step xs w now whole → 0 < w →
    bit_at w k ≡ 1 → ((i : ℕ) → i < k → bit_at w i ≡ 0) → IsLeft step xs (bit_and w (w - 1)) (step now (get_or xs k d)) whole
left-next step xs w k d now whole left some set low = record {
  few = omega (arith, left.few, and_le_r w (w - 1));
  comes = ap (fold step now) (sym (at_bits-next xs w k d some left.few set low)) ∙ left.comes;
}

pub left-none : {A B : Type 0} (step : B → A → B) (xs : List A) (w : ℕ) (now whole : B) → IsLeft step xs w now whole → w ≡ 0 → now ≡ whole
left-none step xs w now whole left none = sym (ap (fold step now) (ap (λ n. at_bits n xs) none ∙ at_bits-none xs)) ∙ left.comes

-- one word more is taken
pub left-share : {A B : Type 0} (step : B → A → B) (mask : List Bool) (xs : List A) (place word : ℕ) (now next whole : B) →
    fold step now (chosen (drop (place * 64) mask) (drop (place * 64) xs)) ≡ whole → word ≡ word_at mask place →
    next ≡ fold step now (at_bits word (take 64 (drop (place * 64) xs))) →
    fold step next (chosen (drop ((place + 1) * 64) mask) (drop ((place + 1) * 64) xs)) ≡ whole
left-share step mask xs place word now next whole left is taken =
    let share = take 64 (drop (place * 64) xs) in
    let behind = chosen (drop ((place + 1) * 64) mask) (drop ((place + 1) * 64) xs) in
    ap (λ b. fold step b behind) (taken ∙ ap (λ w. fold step now (at_bits w share)) is)
    ∙ (sym (fold-append step now (at_bits (word_at mask place) share) behind) ∙ (ap (fold step now) (sym (chosen-word mask xs place)) ∙ left))

-- nothing is left
pub left-done : {A B : Type 0} (step : B → A → B) (mask : List Bool) (xs : List A) (place : ℕ) (now whole : B) → div_ceil (length mask) 64 ≤ place →
    fold step now (chosen (drop (place * 64) mask) (drop (place * 64) xs)) ≡ whole → now ≡ whole
left-done step mask xs place now whole over left =
    let all : length mask ≤ place * 64 = omega (arith, (div_ceil_times (length mask) 64 (omega arith)).0, over) in
    sym (ap (fold step now) (ap (λ m. chosen m (drop (place * 64) xs)) (drop_all (place * 64) mask all))) ∙ left

-- the word of a mask at a place
pub word-read : (mask : List Bool) (words : List ℕ) (place : ℕ) → words ≡ words_of mask → place < div_ceil (length mask) 64 → get_or words place 0 ≡ word_at mask place
word-read mask words place are inside = ap (λ ws. get_or ws place 0) are ∙ get_or-words_of mask place 0 inside
