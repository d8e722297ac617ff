-- Bits of one word.
use Rattle.std.proofs.Common.{◌≡◌, ℕ, ◌+◌, ◌-◌, ◌*◌, ◌/◌, ◌%◌, ◌^◌, ◌<◌, ◌≤◌, ◌==◌, ◌&&◌, ◌||◌, not, Bool, true, false, cond, min, max, List, [], ◌∷◌, ◌++◌, length, get_or, nat_lt, nat_le, bit_and, bit_or, ⊎_elim, sym, refl, ap, ◌∙◌, arith, eq-eqb, pow_pos, lt_of_lt_of_le, mul_assoc, add_comm, pow-suc}
use Rattle.std.proofs.Math.Nat.{pow-le-pow_right}
use Rattle.std.specs.Int.{bit_at}
use lib.Lanes.{mask_l}
use mir.Syntax.{w64}
use mir.Val.{bool_byte}
use Rattle.std.proofs.lemmas.Simd.{mask_l-lt, bit_mask_l}
use Rattle.std.proofs.lemmas.Bool.{cases_lt, cases_eq, ne_eqb, eqb-true, eqb-false, lt-ltb, le-ltb, lt-leb, le-leb}
use Rattle.std.proofs.lemmas.Nat.{mod_below, shr_split, and_le_l, or_lt, or_comm, or_shifted, shl_whole}
use Rattle.std.proofs.lemmas.Nat.Bits.{bit_at-lt, bit_at_cat_low, bit_at_above, bit_at_and, bit_at_or, bit_at_not, bit_at-pow_same, bit_at-pow_other, bit_at_mask_below, bit_at_mask_inside, bit_at_ones, bit_at_ones_above, ones_shr, ones_shl}
use Rattle.im_lanes.specs.Masks.{is_set, word_of, is_within}

-- a bit as a number
pub bit-of : (word i : ℕ) (b : Bool) → is_set word i ≡ b → bit_at word i ≡ cond b 1 0
bit-of word i true is = eqb-true (word / 2 ^ i % 2) 1 is
bit-of word i false is =
    let low : word / 2 ^ i % 2 < 2 = bit_at-lt word i in
    let not_one = eqb-false (word / 2 ^ i % 2) 1 is in
    grind (arith, low, not_one)

-- a bit as a truth value
pub set-of : (word i : ℕ) (b : Bool) → bit_at word i ≡ cond b 1 0 → is_set word i ≡ b
set-of word i true is = eq-eqb (word / 2 ^ i % 2) 1 is
set-of word i false is = ne_eqb (word / 2 ^ i % 2) 1 (λ h. omega (arith, is, h))

-- a number of bits is what lanes make of them
pub word_of-lanes : (bits : List Bool) → word_of bits ≡ mask_l bits
word_of-lanes [] = refl
word_of-lanes (bit ∷ bits) = ap (λ n. cond bit 1 0 + 2 * n) (word_of-lanes bits)

pub bit-word_of : (bits : List Bool) (i : ℕ) → bit_at (word_of bits) i ≡ cond (get_or bits i false) 1 0
bit-word_of bits i = ap (λ n. n / 2 ^ i % 2) (word_of-lanes bits) ∙ bit_mask_l bits i

pub set-word_of : (bits : List Bool) (i : ℕ) → is_set (word_of bits) i ≡ get_or bits i false
set-word_of bits i = set-of (word_of bits) i (get_or bits i false) (bit-word_of bits i)

pub word_of-below : (bits : List Bool) → length bits ≤ 64 → word_of bits < 2 ^ 64
word_of-below bits few = let below = mask_l-lt bits in rw (word_of-lanes bits) (lt_of_lt_of_le below (pow-le-pow_right (omega arith) few))

min-bits : (x y : Bool) → min (cond x 1 0) (cond y 1 0) ≡ cond (x && y) 1 0
min-bits true true = refl
min-bits true false = refl
min-bits false true = refl
min-bits false false = refl

max-bits : (x y : Bool) → max (cond x 1 0) (cond y 1 0) ≡ cond (x || y) 1 0
max-bits true true = refl
max-bits true false = refl
max-bits false true = refl
max-bits false false = refl

turned-bit : (x : Bool) → 1 - cond x 1 0 ≡ cond (not x) 1 0
turned-bit true = refl
turned-bit false = refl

pub set-and : (a b i : ℕ) → is_set (bit_and a b) i ≡ (is_set a i && is_set b i)
set-and a b i =
    set-of (bit_and a b) i (is_set a i && is_set b i)
    (bit_at_and a b i ∙ (ap (λ n. min n (bit_at b i)) (bit-of a i (is_set a i) refl) ∙ (ap (λ n. min (cond (is_set a i) 1 0) n) (bit-of b i (is_set b i) refl)
    ∙ min-bits (is_set a i) (is_set b i))))

pub set-or : (a b i : ℕ) → is_set (bit_or a b) i ≡ (is_set a i || is_set b i)
set-or a b i =
    set-of (bit_or a b) i (is_set a i || is_set b i)
    (bit_at_or a b i ∙ (ap (λ n. max n (bit_at b i)) (bit-of a i (is_set a i) refl) ∙ (ap (λ n. max (cond (is_set a i) 1 0) n) (bit-of b i (is_set b i) refl)
    ∙ max-bits (is_set a i) (is_set b i))))

pub set-not : (a i : ℕ) → a < 2 ^ 64 → i < 64 → is_set (2 ^ 64 - 1 - a) i ≡ not (is_set a i)
set-not a i small low =
    set-of (2 ^ 64 - 1 - a) i (not (is_set a i))
    (bit_at_not w64 a i small low ∙ (ap (λ n. 1 - n) (bit-of a i (is_set a i) refl) ∙ turned-bit (is_set a i)))

-- the lowest bits alone
pub set-low : (a count i : ℕ) → i < count → is_set (a % 2 ^ count) i ≡ is_set a i
set-low a count i low =
    sym (ap (λ n. n == 1) (sym (ap (λ n. bit_at n i) (shr_split a count)) ∙ bit_at_cat_low (a / 2 ^ count) count (a % 2 ^ count) i low))

pub set-past : (a count i : ℕ) → count ≤ i → is_set (a % 2 ^ count) i ≡ false
set-past a count i past =
    set-of (a % 2 ^ count) i false (bit_at_above (a % 2 ^ count) count i (mod_below a (2 ^ count) (pow_pos count)) past)

-- one bit more stands above those before it
pub word_of-push : (bits : List Bool) (bit : Bool) → word_of (bits ++ bit ∷ []) ≡ word_of bits + cond bit 1 0 * 2 ^ length bits
word_of-push [] bit = grind arith
word_of-push (first ∷ bits) bit =
    let more = word_of-push bits bit in
    let power : 2 ^ length (first ∷ bits) ≡ 2 ^ length bits * 2 = pow-suc 2 (length bits) in
    rw power (omega (arith, more, mul_assoc (cond bit 1 0) (2 ^ length bits) 2))

pub and-below : (a b : ℕ) → a < 2 ^ 64 → b < 2 ^ 64 → bit_and a b < 2 ^ 64
and-below a b small other = omega (arith, and_le_l a b, small)

pub or-below : (a b : ℕ) → a < 2 ^ 64 → b < 2 ^ 64 → bit_or a b < 2 ^ 64
or-below a b small other = or_lt 64 a b small other

cond_small : (b : Bool) → cond b 1 0 < 2 ^ 1
cond_small true = omega arith
cond_small false = omega arith

pub and-false : (b : Bool) → (b && false) ≡ false
and-false true = refl
and-false false = refl

-- two tests of order that say the same
pub leb-same : (a b x y : ℕ) → (a ≤ b → x ≤ y) → (x ≤ y → a ≤ b) → nat_le a b ≡ nat_le x y
leb-same a b x y to back =
    ⊎_elim (λ (h : a < b + 1). le-leb a b (omega arith) ∙ sym (le-leb x y (to (omega arith))))
    (λ (h : b + 1 ≤ a). lt-leb a b (omega arith)
    ∙ sym (⊎_elim (λ (k : y < x). lt-leb x y k) (λ (k : x ≤ y). absurd (let r = back k in omega arith)) (cases_lt y x)))
    (cases_lt a (b + 1))

pub ltb-same : (a b x y : ℕ) → (a < b → x < y) → (x < y → a < b) → nat_lt a b ≡ nat_lt x y
ltb-same a b x y to back =
    ⊎_elim (λ (h : a < b). lt-ltb a b h ∙ sym (lt-ltb x y (to h)))
    (λ (h : b ≤ a). le-ltb a b h
    ∙ sym (⊎_elim (λ (k : x < y). absurd (let r = back k in omega arith)) (λ (k : y ≤ x). le-ltb x y k) (cases_lt x y)))
    (cases_lt a b)

-- a bit put above a word
pub or-above : (word place bit : ℕ) (chosen : Bool) → word < 2 ^ place → place < 64 → bit ≡ cond chosen 1 0 →
    bit_or word (bit * 2 ^ place % 18446744073709551616) ≡ word + cond chosen 1 0 * 2 ^ place
or-above word place bit chosen above inside is =
    let small : bit < 2 ^ 1 = rw is (cond_small chosen) in
    let whole : bit * 2 ^ place % 18446744073709551616 ≡ bit * 2 ^ place = shl_whole bit 1 place 64 small (omega arith) in
    rw (whole, or_comm word (bit * 2 ^ place), or_shifted bit place word above, ← is) (add_comm (bit * 2 ^ place) word)

-- the bits of a range of positions
pub set-range : (low high i : ℕ) → low < 64 → high ≤ 64 → 0 < high → i < 64 →
    is_set (bit_and (18446744073709551615 / 2 ^ (64 - high)) (18446744073709551615 * 2 ^ low % 18446744073709551616)) i ≡ is_within low high i
set-range low high i below most some inside =
    let top : 18446744073709551615 / 2 ^ (64 - high) ≡ 2 ^ high - 1 = ones_shr 64 (64 - high) (omega arith) ∙ ap (λ k. 2 ^ k - 1) (omega arith) in
    let bottom : 18446744073709551615 * 2 ^ low % 18446744073709551616 ≡ 2 ^ 64 - 2 ^ low = ones_shl 64 low (omega arith) in
    rw (top, bottom) (set-and (2 ^ high - 1) (2 ^ 64 - 2 ^ low) i
    ∙ ⊎_elim
    (λ (under : i < low).
    let none = set-of (2 ^ 64 - 2 ^ low) i false (bit_at_mask_below low 64 i under) in
    let out = lt-leb low i under in
    rw (none, out) (and-false (is_set (2 ^ high - 1) i)))
    (λ (over : low ≤ i).
    let one = set-of (2 ^ 64 - 2 ^ low) i true (bit_at_mask_inside low 64 i over inside) in
    let out = le-leb low i over in
    ⊎_elim
    (λ (h : i < high).
    let two = set-of (2 ^ high - 1) i true (bit_at_ones high i h) in
    let in_end = lt-ltb i high h in
    rw (one, two, out, in_end) refl)
    (λ (h : high ≤ i).
    let two = set-of (2 ^ high - 1) i false (bit_at_ones_above high i h) in
    let in_end = le-ltb i high h in
    rw (one, two, out, in_end) refl)
    (cases_lt i high))
    (cases_lt i low))

-- a range of positions, counted from the first of a word
pub within-moved : (first from end i : ℕ) → i < 64 → first < end → is_within (from - first) (min (end - first) 64) i ≡ is_within from end (first + i)
within-moved first from end i inside begins =
    ap (λ b. b && nat_lt i (min (end - first) 64)) (leb-same (from - first) i from (first + i) (λ h. omega arith) (λ h. omega arith))
    ∙ ap (λ b. nat_le from (first + i) && b) (ltb-same i (min (end - first) 64) (first + i) end (λ h. omega arith) (λ h. omega arith))

-- a truth value as a number
pub byte-is : (b : Bool) → bool_byte b ≡ cond b 1 0
byte-is true = refl
byte-is false = refl

pub or-turned : (x y : Bool) → (x || y) ≡ (y || x)
or-turned true true = refl
or-turned true false = refl
or-turned false true = refl
or-turned false false = refl

pub and-turned : (x y : Bool) → (x && y) ≡ (y && x)
and-turned true true = refl
and-turned true false = refl
and-turned false true = refl
and-turned false false = refl

pub and-small : (a b : ℕ) → a < 2 ^ 64 → bit_and a b < 2 ^ 64
and-small a b small = omega (arith, and_le_l a b, small)

-- the one bit of a power
pub set-power : (k i : ℕ) → is_set (2 ^ k) i ≡ (i == k)
set-power k i =
    ⊎_elim (λ (h : i ≡ k). rw h (set-of (2 ^ k) k true (bit_at-pow_same k) ∙ sym (eq-eqb k k refl)))
    (λ (h : i ≡ k → ⊥). set-of (2 ^ k) i false (bit_at-pow_other k i h) ∙ sym (ne_eqb i k h))
    (cases_eq i k)

-- a turned word, of which the first positions alone count
pub turned-bits : (word left i : ℕ) → word < 2 ^ 64 → i < 64 → is_set ((18446744073709551615 - word) % 2 ^ left) i ≡ (nat_lt i left && not (is_set word i))
turned-bits word left i small low =
    ⊎_elim (λ (h : i < left). set-low (18446744073709551615 - word) left i h ∙ (set-not word i small low ∙ rw (lt-ltb i left h) refl))
    (λ (h : left ≤ i). set-past (18446744073709551615 - word) left i h ∙ rw (le-ltb i left h) refl)
    (cases_lt i left)

pub le-lt-same : (a end : ℕ) → 0 < end → nat_le a (end - 1) ≡ nat_lt a end
le-lt-same a end some =
    ⊎_elim (λ (h : a < end). le-leb a (end - 1) (omega (arith, h)) ∙ sym (lt-ltb a end h))
    (λ (h : end ≤ a). lt-leb a (end - 1) (omega (arith, h, some)) ∙ sym (le-ltb a end h))
    (cases_lt a end)
