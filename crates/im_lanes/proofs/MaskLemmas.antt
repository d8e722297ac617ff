-- Words of bits, and the lists of truth values that they hold.
use Rattle.std.proofs.Common.{All, min, count_by, filter, ◌≡◌, ℕ, zero, suc, ◌+◌, ◌-◌, ◌*◌, ◌/◌, ◌%◌, ◌^◌, ◌<◌, ◌≤◌, ◌==◌, ◌&&◌, ◌||◌, not, bit_and, bit_or, set, replicate, nat_lt, nat_le, Bool, true, false, cond, List, [], ◌∷◌, ◌++◌, length, take, drop, map, get_or, ⊎_elim, sym, refl, ap, ◌∙◌, arith, get_or-drop, get_or-take, length-take, length-take-le, length-drop, length-append, eq-eqb, div-add-mod', pow_pos, lt_of_lt_of_le, lt_of_le_of_lt, subst, zero-add}
use Rattle.std.proofs.Math.Nat.{pow-le-pow_right}
use Rattle.std.specs.Int.{div_ceil}
use Rattle.std.proofs.lemmas.Grind.{div_ceil_times}
use Rattle.std.proofs.lemmas.List.{take-take, drop-take, take-append-drop, map-id, get_or-replicate, length-replicate, length-map, get_or-map, get_or_append_left, get_or-append_right, same_lists, get_or_default, get_or_past, get_or_read, get_or-set_same, get_or-set_other, set_past, take_more, take_all}
use Rattle.std.proofs.lemmas.List.FromFn.{length-map-range_with_len, get_or-map-range_with_len}
use Rattle.std.proofs.lemmas.Bool.{cases_lt, cases_eq, lt-ltb, le-ltb, lt-leb, le-leb, ne_eqb}
use Rattle.std.proofs.lemmas.Nat.{mod_below, shr_split, div_below, div-mul-add, mod-mul-add, one_shl, pow_below}
use Rattle.std.proofs.lemmas.Nat.Bits.{same_from_bits_below, bit_at-zero}
use lib.Lanes.{mask_l}
use Rattle.std.proofs.lemmas.List.Sums.{length-filter, count_by-le-length}
use Rattle.std.proofs.lemmas.List.Elements.{filter-append}
use Rattle.std.specs.Int.RustNames.{count_ones}
use Rattle.std.proofs.lemmas.Simd.{mask_l-lt, ones-mask_l}
use Rattle.im_lanes.proofs.BitLemmas.{le-lt-same, word_of-lanes, word_of-push, bit-of, set-of, bit-word_of, set-word_of, word_of-below, set-and, set-or, set-not, set-low, set-past, ltb-same, and-false, set-power, or-turned, and-turned, and-small, or-below, turned-bits}
use Rattle.im_lanes.specs.inner.Words.{HaveBits}
use Rattle.im_lanes.specs.Masks.{is_between, joined, filled, is_within, is_set, bit_in, bits_in, word_of, word_at, words_of}

-- a word below 2^64 with the bits of a mask at a place is the word of the mask there
pub word-is : (mask : List Bool) (place word : ℕ) → word < 2 ^ 64 → ((i : ℕ) → i < 64 → is_set word i ≡ get_or mask (place * 64 + i) false) →
    word ≡ word_at mask place
word-is mask place word small bits =
    let part = take 64 (drop (place * 64) mask) in
    let short : length part ≤ 64 = omega (arith, length-take 64 (drop (place * 64) mask)) in
    same_from_bits_below 64 word (word_of part) small (word_of-below part short) (λ i low.
    bit-of word i (get_or mask (place * 64 + i) false) (bits i low)
    ∙ sym (bit-word_of part i ∙ ap (λ b. cond b 1 0) (get_or-take 64 (drop (place * 64) mask) i false low ∙ get_or-drop (place * 64) mask i false)))

-- the bits of the word of a mask
pub set-word_at : (mask : List Bool) (place i : ℕ) → i < 64 → is_set (word_at mask place) i ≡ get_or mask (place * 64 + i) false
set-word_at mask place i low =
    let part = take 64 (drop (place * 64) mask) in
    let here = get_or-take 64 (drop (place * 64) mask) i false low ∙ get_or-drop (place * 64) mask i false in
    set-of (word_of part) i (get_or mask (place * 64 + i) false) (bit-word_of part i ∙ ap (λ b. cond b 1 0) here)

-- ---- words and masks

pub length-words_of : (mask : List Bool) → length (words_of mask) ≡ div_ceil (length mask) 64
unfolding words_of
length-words_of mask = length-map-range_with_len (word_at mask) 0 (div_ceil (length mask) 64)

pub get_or-words_of : (mask : List Bool) (place d : ℕ) → place < div_ceil (length mask) 64 → get_or (words_of mask) place d ≡ word_at mask place
unfolding words_of
get_or-words_of mask place d inside = get_or-map-range_with_len (word_at mask) 0 (div_ceil (length mask) 64) place place d inside (omega arith)

pub length-bits_in : (words : List ℕ) (n : ℕ) → length (bits_in words n) ≡ n
unfolding bits_in
length-bits_in words n = length-map-range_with_len (bit_in words) 0 n

pub get_or-bits_in : (words : List ℕ) (n i : ℕ) (d : Bool) → i < n → get_or (bits_in words n) i d ≡ bit_in words i
unfolding bits_in
get_or-bits_in words n i d h = get_or-map-range_with_len (bit_in words) 0 n i i d h (omega arith)

-- the word of a position is among the words
pub place-inside : (n i : ℕ) → i < n → i / 64 < div_ceil n 64
place-inside n i inside = let enough = (div_ceil_times n 64 (omega arith)).0 in div_below i 64 (div_ceil n 64) (omega arith) (omega arith)

-- a word begins inside the mask
pub place-begins : (n place : ℕ) → place < div_ceil n 64 → place * 64 < n
place-begins n place inside = let few = (div_ceil_times n 64 (omega arith)).1 in omega (arith, few, inside)

-- the bit at a position, read from the words of a mask
pub bit_in-words_of : (mask : List Bool) (i : ℕ) → i < length mask → bit_in (words_of mask) i ≡ get_or mask i false
bit_in-words_of mask i inside =
    let there = place-inside (length mask) i inside in
    ap (λ w. is_set w (i % 64)) (get_or-words_of mask (i / 64) 0 there)
    ∙ (set-word_at mask (i / 64) (i % 64) (mod_below i 64 (omega arith)) ∙ ap (λ k. get_or mask k false) (div-add-mod' i 64))

-- what the words of a mask hold is the mask
pub bits_in-words_of : (mask : List Bool) → bits_in (words_of mask) (length mask) ≡ mask
bits_in-words_of mask =
    same_lists _ _ (length-bits_in (words_of mask) (length mask)) (λ k d h.
    let inside : k < length mask = omega (arith, length-bits_in (words_of mask) (length mask), h) in
    get_or-bits_in (words_of mask) (length mask) k d inside ∙ (bit_in-words_of mask k inside ∙ get_or_default mask k false d inside))

-- words that are those of a mask hold it
pub words-hold : (words : List ℕ) (n : ℕ) (mask : List Bool) → words ≡ words_of mask → length mask ≡ n → bits_in words n ≡ mask
words-hold words n mask are long = rw (are, ← long) (bits_in-words_of mask)

-- and are whole
pub words-whole : (words : List ℕ) (n : ℕ) (mask : List Bool) → words ≡ words_of mask → length mask ≡ n → words ≡ words_of (bits_in words n)
words-whole words n mask are long = are ∙ ap words_of (sym (words-hold words n mask are long))

-- one more word
pub words-more : (mask : List Bool) (place : ℕ) (words : List ℕ) (word : ℕ) → place < div_ceil (length mask) 64 →
    words ≡ take place (words_of mask) → word ≡ word_at mask place → words ++ word ∷ [] ≡ take (place + 1) (words_of mask)
words-more mask place words word inside so_far next =
    let there : place < length (words_of mask) = rw (length-words_of mask) inside in
    let here = get_or-words_of mask place 0 inside in
    rw (so_far, next, take_more (words_of mask) place 0 there, here) refl

-- all words
pub words-all : (mask : List Bool) (place : ℕ) (words : List ℕ) → div_ceil (length mask) 64 ≤ place → words ≡ take place (words_of mask) → words ≡ words_of mask
words-all mask place words over so_far = so_far ∙ take_all place (words_of mask) (omega (arith, length-words_of mask, over))

-- ---- a mask as it is kept

-- the word of a position is there
pub word-inside : (words : List ℕ) (n : ℕ) (mask : List Bool) (i : ℕ) → bits_in words n ≡ mask → words ≡ words_of (bits_in words n) → i < length mask →
    i / 64 < length words
word-inside words n mask i is whole inside =
    let count : length words ≡ div_ceil (length mask) 64 = ap length whole ∙ (length-words_of (bits_in words n) ∙ ap (λ m. div_ceil (length m) 64) is) in
    rw count (place-inside (length mask) i inside)

-- its bit says whether it is chosen
pub bit-read : (words : List ℕ) (n : ℕ) (mask : List Bool) (i word : ℕ) → bits_in words n ≡ mask → i < length mask → i / 64 < length words →
    word ≡ get_or words (i / 64) word → is_set word (i % 64) ≡ get_or mask i false
bit-read words n mask i word is inside there read =
    let within : i < n = omega (arith, length-bits_in words n, ap length is, inside) in
    ap (λ w. is_set w (i % 64)) (get_or_read words (i / 64) word there read 0)
    ∙ (sym (get_or-bits_in words n i false within) ∙ ap (λ m. get_or m i false) is)

-- words with the bits of a mask are its words: past the end they have none
pub words-by-bits : (mask : List Bool) (words : List ℕ) → length words ≡ div_ceil (length mask) 64 → ((k : ℕ) → get_or words k 0 < 2 ^ 64) →
    ((i : ℕ) → i < length words * 64 → bit_in words i ≡ get_or mask i false) → words ≡ words_of mask
words-by-bits mask words count small bits =
    same_lists words (words_of mask) (omega (arith, count, length-words_of mask)) (λ k d h.
    let inside : k < div_ceil (length mask) 64 = omega (arith, count, h) in
    let here = word-is mask k (get_or words k 0) (small k) (λ i low.
    let within : k * 64 + i < length words * 64 = omega (arith, h, low) in
    let word : (k * 64 + i) / 64 ≡ k = div-mul-add k 64 i low in
    let place : (k * 64 + i) % 64 ≡ i = mod-mul-add k 64 i low in
    let read = bits (k * 64 + i) within in
    rw (word, place) at read) in
    get_or_default words k d 0 h ∙ (here ∙ sym (get_or-words_of mask k d inside)))

-- the bits of the words of a mask, past its end too
pub bit_in-whole : (words : List ℕ) (n : ℕ) (mask : List Bool) → bits_in words n ≡ mask → words ≡ words_of (bits_in words n) →
    (i : ℕ) → i < length words * 64 → bit_in words i ≡ get_or mask i false
bit_in-whole words n mask is whole i within =
    let count : length words ≡ div_ceil (length mask) 64 = ap length whole ∙ (length-words_of (bits_in words n) ∙ ap (λ m. div_ceil (length m) 64) is) in
    let there : i / 64 < div_ceil (length mask) 64 = div_below i 64 (div_ceil (length mask) 64) (omega arith) (omega (arith, within, count)) in
    ap (λ ws. bit_in ws i) (whole ∙ ap words_of is)
    ∙ (ap (λ w. is_set w (i % 64)) (get_or-words_of mask (i / 64) 0 there)
    ∙ (set-word_at mask (i / 64) (i % 64) (mod_below i 64 (omega arith)) ∙ ap (λ k. get_or mask k false) (div-add-mod' i 64)))

-- they have 64 bits each
pub small-words_of : (mask : List Bool) (k : ℕ) → get_or (words_of mask) k 0 < 2 ^ 64
small-words_of mask k =
    ⊎_elim (λ (h : k < div_ceil (length mask) 64).
    rw (get_or-words_of mask k 0 h) (word_of-below (take 64 (drop (k * 64) mask)) (omega (arith, length-take 64 (drop (k * 64) mask)))))
    (λ (h : div_ceil (length mask) 64 ≤ k). rw (get_or_past (words_of mask) k 0 (omega (arith, length-words_of mask, h))) (pow_pos 64))
    (cases_lt k (div_ceil (length mask) 64))

pub small-whole : (words : List ℕ) (n k : ℕ) → words ≡ words_of (bits_in words n) → get_or words k 0 < 2 ^ 64
small-whole words n k whole = let P : List ℕ → Type 0 = λ ws. get_or ws k 0 < 2 ^ 64 in subst P (sym whole) (small-words_of (bits_in words n) k)

-- words that hold a mask
pub record Holds (words : List ℕ) (n : ℕ) (mask : List Bool) : Type 0 where
  pub whole : words ≡ words_of (bits_in words n)
  pub is : bits_in words n ≡ mask

pub holds-words : (words : List ℕ) (n : ℕ) (mask : List Bool) → words ≡ words_of mask → length mask ≡ n → Holds words n mask
holds-words words n mask are long = record { whole = words-whole words n mask are long; is = words-hold words n mask are long }

pub count-of : (words : List ℕ) (n : ℕ) → words ≡ words_of (bits_in words n) → length words ≡ div_ceil n 64
count-of words n whole = ap length whole ∙ (length-words_of (bits_in words n) ∙ ap (λ k. div_ceil k 64) (length-bits_in words n))

pub length-of : (words : List ℕ) (n : ℕ) (mask : List Bool) → bits_in words n ≡ mask → length mask ≡ n
length-of words n mask is = ap length (sym is) ∙ length-bits_in words n

-- ---- masks joined

pub length-joined : (f : Bool → Bool → Bool) (xs ys : List Bool) → length xs ≡ length ys → length (joined f xs ys) ≡ length xs
length-joined f [] ys same = refl
length-joined f (x ∷ xs) [] same = absurd (omega (arith, same))
length-joined f (x ∷ xs) (y ∷ ys) same = let rest = length-joined f xs ys (omega (arith, same)) in omega (arith, rest)

pub get_or-joined : (f : Bool → Bool → Bool) → f false false ≡ false → (xs ys : List Bool) (i : ℕ) → length xs ≡ length ys →
    get_or (joined f xs ys) i false ≡ f (get_or xs i false) (get_or ys i false)
get_or-joined f none [] [] i same = sym none
get_or-joined f none [] (y ∷ ys) i same = absurd (omega (arith, same))
get_or-joined f none (x ∷ xs) [] i same = absurd (omega (arith, same))
get_or-joined f none (x ∷ xs) (y ∷ ys) zero same = refl
get_or-joined f none (x ∷ xs) (y ∷ ys) (suc i) same = get_or-joined f none xs ys i (omega (arith, same))

-- words joined bit by bit hold the masks joined
pub joined-holds : (f : Bool → Bool → Bool) (op : ℕ → ℕ → ℕ) → f false false ≡ false → ((a b i : ℕ) → is_set (op a b) i ≡ f (is_set a i) (is_set b i)) →
    ((a b : ℕ) → a < 2 ^ 64 → b < 2 ^ 64 → op a b < 2 ^ 64) → (old others new : List ℕ) (n : ℕ) (xs ys : List Bool) →
    bits_in old n ≡ xs → old ≡ words_of (bits_in old n) → others ≡ words_of ys → length xs ≡ length ys → length new ≡ length old →
    ((k : ℕ) → k < length old → get_or new k 0 ≡ op (get_or old k 0) (get_or others k 0)) → Holds new n (joined f xs ys)
joined-holds f op none bits below old others new n xs ys is whole other same long each =
    let count = count-of old n whole in
    let size : length (joined f xs ys) ≡ n = length-joined f xs ys same ∙ length-of old n xs is in
    let count_new : length new ≡ div_ceil (length (joined f xs ys)) 64 = long ∙ (count ∙ ap (λ k. div_ceil k 64) (sym size)) in
    let other_whole = words-whole others (length ys) ys other refl in
    let other_is = words-hold others (length ys) ys other refl in
    let count_other : length others ≡ length old = count-of others (length ys) other_whole ∙ (ap (λ k. div_ceil k 64) (sym same ∙ length-of old n xs is) ∙ sym count) in
    holds-words new n (joined f xs ys)
    (words-by-bits (joined f xs ys) new count_new
    (λ k. ⊎_elim (λ (h : k < length old). rw (each k h) (below (get_or old k 0) (get_or others k 0) (small-whole old n k whole) (small-whole others (length ys) k other_whole)))
    (λ (h : length old ≤ k). rw (get_or_past new k 0 (omega (arith, long, h))) (pow_pos 64)) (cases_lt k (length old)))
    (λ i h.
    let there : i / 64 < length old = div_below i 64 (length old) (omega arith) (omega (arith, long, h)) in
    let one = bit_in-whole old n xs is whole i (omega (arith, long, h)) in
    let two = bit_in-whole others (length ys) ys other_is other_whole i (omega (arith, long, count_other, h)) in
    ap (λ w. is_set w (i % 64)) (each (i / 64) there)
    ∙ (bits (get_or old (i / 64) 0) (get_or others (i / 64) 0) (i % 64)
    ∙ (ap (λ b. f b (bit_in others i)) one ∙ (ap (λ b. f (get_or xs i false) b) two ∙ sym (get_or-joined f none xs ys i same))))))
    size

-- ---- one word written

pub set-same : (words : List ℕ) (p word k : ℕ) → p < length words → k / 64 ≡ p → bit_in (set words p word) k ≡ is_set word (k % 64)
set-same words p word k inside at = rw at (ap (λ w. is_set w (k % 64)) (get_or-set_same words p word 0 inside))

pub set-other : (words : List ℕ) (p word k : ℕ) → (k / 64 ≡ p → ⊥) → bit_in (set words p word) k ≡ bit_in words k
set-other words p word k other = ap (λ w. is_set w (k % 64)) (get_or-set_other words p (k / 64) word 0 other)

pub small-set : (words : List ℕ) (p word : ℕ) → ((k : ℕ) → get_or words k 0 < 2 ^ 64) → word < 2 ^ 64 → (k : ℕ) → get_or (set words p word) k 0 < 2 ^ 64
small-set words p word small fits k =
    ⊎_elim (λ (at : k ≡ p). ⊎_elim (λ (h : p < length words). rw (at, get_or-set_same words p word 0 h) fits)
    (λ (h : length words ≤ p). rw (set_past words p word h) (small k)) (cases_lt p (length words)))
    (λ (other : k ≡ p → ⊥). rw (get_or-set_other words p k word 0 other) (small k))
    (cases_eq k p)

-- one word with new bits, where the others have theirs
pub have-set : (bit : ℕ → Bool) (words : List ℕ) (p word : ℕ) → p < length words → ((k : ℕ) → get_or words k 0 < 2 ^ 64) → word < 2 ^ 64 →
    ((r : ℕ) → r < 64 → is_set word r ≡ bit (p * 64 + r)) → ((k : ℕ) → (k / 64 ≡ p → ⊥) → bit_in words k ≡ bit k) → HaveBits bit (set words p word)
have-set bit words p word inside small fits here others = record {
  small = small-set words p word small fits;
  bits = λ k within.
      ⊎_elim (λ (at : k / 64 ≡ p).
      let place : p * 64 + k % 64 ≡ k = rw (← at) (div-add-mod' k 64) in
      set-same words p word k inside at ∙ (here (k % 64) (mod_below k 64 (omega arith)) ∙ ap bit place))
      (λ (other : k / 64 ≡ p → ⊥). set-other words p word k other ∙ others k other)
      (cases_eq (k / 64) p);
}

-- words with the bits of a mask hold it
pub have-holds : (bit : ℕ → Bool) (old new : List ℕ) (n : ℕ) (mask : List Bool) → old ≡ words_of (bits_in old n) → length mask ≡ n → length new ≡ length old →
    HaveBits bit new → ((k : ℕ) → k < length old * 64 → bit k ≡ get_or mask k false) → Holds new n mask
have-holds bit old new n mask whole size long have same =
    let count : length new ≡ div_ceil (length mask) 64 = long ∙ (count-of old n whole ∙ ap (λ k. div_ceil k 64) (sym size)) in
    holds-words new n mask (words-by-bits mask new count have.small (λ k h. have.bits k h ∙ same k (omega (arith, long, h)))) size

-- ---- one position

or-past : (x y : Bool) → x ≡ false → (x || y) ≡ y
or-past x y is = rw is refl

eqb-moved : (p r i : ℕ) → r < 64 → i / 64 ≡ p → (r == i % 64) ≡ (p * 64 + r == i)
eqb-moved p r i low at =
    let place : p * 64 + i % 64 ≡ i = rw (← at) (div-add-mod' i 64) in
    ⊎_elim (λ (h : r ≡ i % 64). eq-eqb r (i % 64) h ∙ sym (eq-eqb (p * 64 + r) i (omega (arith, h, place))))
    (λ (h : r ≡ i % 64 → ⊥). ne_eqb r (i % 64) h ∙ sym (ne_eqb (p * 64 + r) i (λ e. h (omega (arith, e, place)))))
    (cases_eq r (i % 64))

ne-elsewhere : (k i p : ℕ) → i / 64 ≡ p → (k / 64 ≡ p → ⊥) → (k == i) ≡ false
ne-elsewhere k i p at other = ne_eqb k i (λ e. other (ap (λ j. j / 64) e ∙ at))

pub set-bit : (words : List ℕ) (i : ℕ) → i / 64 < length words → ((k : ℕ) → get_or words k 0 < 2 ^ 64) →
    HaveBits (λ k. (k == i) || bit_in words k) (set words (i / 64) (bit_or (get_or words (i / 64) 0) (1 * 2 ^ (i % 64) % 18446744073709551616)))
set-bit words i inside small =
    let low = mod_below i 64 (omega arith) in
    let w = get_or words (i / 64) 0 in
    let one : 1 * 2 ^ (i % 64) % 18446744073709551616 ≡ 2 ^ (i % 64) = one_shl (i % 64) 64 low in
    have-set (λ k. (k == i) || bit_in words k) words (i / 64) (bit_or w (1 * 2 ^ (i % 64) % 18446744073709551616)) inside small
    (or-below w (1 * 2 ^ (i % 64) % 18446744073709551616) (small (i / 64)) (mod_below (1 * 2 ^ (i % 64)) 18446744073709551616 (omega arith)))
    (λ r below.
    let word : (i / 64 * 64 + r) / 64 ≡ i / 64 = div-mul-add (i / 64) 64 r below in
    let place : (i / 64 * 64 + r) % 64 ≡ r = mod-mul-add (i / 64) 64 r below in
    rw (one, word, place, ← eqb-moved (i / 64) r i below refl) (set-or w (2 ^ (i % 64)) r ∙ (ap (λ b. is_set w r || b) (set-power (i % 64) r)
    ∙ or-turned (is_set w r) (r == i % 64))))
    (λ k other. sym (or-past (k == i) (bit_in words k) (ne-elsewhere k i (i / 64) refl other)))

pub clear-bit : (words : List ℕ) (i : ℕ) → i / 64 < length words → ((k : ℕ) → get_or words k 0 < 2 ^ 64) →
    HaveBits (λ k. not (k == i) && bit_in words k)
    (set words (i / 64) (bit_and (get_or words (i / 64) 0) (18446744073709551615 - 1 * 2 ^ (i % 64) % 18446744073709551616)))
clear-bit words i inside small =
    let low = mod_below i 64 (omega arith) in
    let w = get_or words (i / 64) 0 in
    let one : 1 * 2 ^ (i % 64) % 18446744073709551616 ≡ 2 ^ (i % 64) = one_shl (i % 64) 64 low in
    have-set (λ k. not (k == i) && bit_in words k) words (i / 64) (bit_and w (18446744073709551615 - 1 * 2 ^ (i % 64) % 18446744073709551616)) inside small
    (and-small w (18446744073709551615 - 1 * 2 ^ (i % 64) % 18446744073709551616) (small (i / 64)))
    (λ r below.
    let word : (i / 64 * 64 + r) / 64 ≡ i / 64 = div-mul-add (i / 64) 64 r below in
    let place : (i / 64 * 64 + r) % 64 ≡ r = mod-mul-add (i / 64) 64 r below in
    rw (one, word, place, ← eqb-moved (i / 64) r i below refl) (set-and w (18446744073709551615 - 2 ^ (i % 64)) r
    ∙ (ap (λ b. is_set w r && b) (set-not (2 ^ (i % 64)) r (pow_below (i % 64) 64 low) below ∙ ap not (set-power (i % 64) r))
    ∙ and-turned (is_set w r) (not (r == i % 64)))))
    (λ k other. sym (rw (ne-elsewhere k i (i / 64) refl other) refl))

-- ---- loops over words

-- a word of a loop is turned
pub turned-step : (old words : List ℕ) (len i word : ℕ) → i < length words → ((k : ℕ) → get_or old k 0 < 2 ^ 64) →
    ((k : ℕ) → k < i * 64 → bit_in words k ≡ (nat_lt k len && not (bit_in old k))) → ((k : ℕ) → i * 64 ≤ k → bit_in words k ≡ bit_in old k) →
    word ≡ (18446744073709551615 - get_or old i 0) % 2 ^ (len - i * 64) → (k : ℕ) → k < (i + 1) * 64 →
    bit_in (set words i word) k ≡ (nat_lt k len && not (bit_in old k))
turned-step old words len i word inside small done rest is k below =
    ⊎_elim (λ (at : k / 64 ≡ i).
    let place : i * 64 + k % 64 ≡ k = rw (← at) (div-add-mod' k 64) in
    let low = mod_below k 64 (omega arith) in
    set-same words i word k inside at ∙ (ap (λ w. is_set w (k % 64)) is
    ∙ (turned-bits (get_or old i 0) (len - i * 64) (k % 64) (small i) low
    ∙ (ap (λ b. b && not (is_set (get_or old i 0) (k % 64))) (ltb-same (k % 64) (len - i * 64) k len (λ h. omega (arith, h, place)) (λ h. omega (arith, h, place)))
    ∙ ap (λ j. nat_lt k len && not (is_set (get_or old j 0) (k % 64))) (sym at)))))
    (λ (other : k / 64 ≡ i → ⊥).
    let under : k < i * 64 = omega (arith, below, other, div-add-mod' k 64, mod_below k 64 (omega arith)) in
    set-other words i word k other ∙ done k under)
    (cases_eq (k / 64) i)

-- and those behind it stand
pub later-stand : (old words : List ℕ) (i word k : ℕ) → ((k : ℕ) → i * 64 ≤ k → bit_in words k ≡ bit_in old k) → (i + 1) * 64 ≤ k →
    bit_in (set words i word) k ≡ bit_in old k
later-stand old words i word k rest past =
    set-other words i word k (λ at. absurd (omega (arith, at, past, div-add-mod' k 64, mod_below k 64 (omega arith)))) ∙ rest k (omega (arith, past))

-- a word of a loop is filled
pub filled-step : (old words : List ℕ) (from end i bits : ℕ) → i < length words →
    ((k : ℕ) → k < i * 64 → bit_in words k ≡ (is_within from end k || bit_in old k)) → ((k : ℕ) → i * 64 ≤ k → bit_in words k ≡ bit_in old k) →
    ((k : ℕ) → k < 64 → is_set bits k ≡ is_within from end (i * 64 + k)) → (k : ℕ) → k < (i + 1) * 64 →
    bit_in (set words i (bit_or (get_or words i 0) bits)) k ≡ (is_within from end k || bit_in old k)
filled-step old words from end i bits inside done rest are k below =
    ⊎_elim (λ (at : k / 64 ≡ i).
    let place : i * 64 + k % 64 ≡ k = rw (← at) (div-add-mod' k 64) in
    let low = mod_below k 64 (omega arith) in
    let before : is_set (get_or words i 0) (k % 64) ≡ bit_in old k = ap (λ j. is_set (get_or words j 0) (k % 64)) (sym at) ∙ rest k (omega (arith, place)) in
    set-same words i (bit_or (get_or words i 0) bits) k inside at
    ∙ (set-or (get_or words i 0) bits (k % 64)
    ∙ (ap (λ b. b || is_set bits (k % 64)) before
    ∙ (ap (λ b. bit_in old k || b) (are (k % 64) low ∙ ap (is_within from end) place) ∙ or-turned (bit_in old k) (is_within from end k)))))
    (λ (other : k / 64 ≡ i → ⊥).
    let under : k < i * 64 = omega (arith, below, other, div-add-mod' k 64, mod_below k 64 (omega arith)) in
    set-other words i (bit_or (get_or words i 0) bits) k other ∙ done k under)
    (cases_eq (k / 64) i)

-- before the first word that is filled, and behind the last, nothing is
pub fill-before : (old : List ℕ) (from end place k : ℕ) → place ≡ from / 64 → k < place * 64 → bit_in old k ≡ (is_within from end k || bit_in old k)
fill-before old from end place k is under =
    let below : k < from = omega (arith, under, ap (λ p. p * 64) is, div-add-mod' from 64) in
    rw (lt-leb from k below) refl

pub fill-past : (old : List ℕ) (from end place k : ℕ) → div_ceil end 64 ≤ place → place * 64 ≤ k → bit_in old k ≡ (is_within from end k || bit_in old k)
fill-past old from end place k over past =
    let enough = (div_ceil_times end 64 (omega arith)).0 in
    let above : end ≤ k = omega (arith, over, past, enough) in
    rw (le-ltb k end above, and-false (nat_le from k)) refl

-- ---- masks that are changed

-- one position
pub get_or-put : (mask : List Bool) (i k : ℕ) (b : Bool) → i < length mask → get_or (set mask i b) k false ≡ cond (k == i) b (get_or mask k false)
get_or-put mask i k b inside =
    ⊎_elim (λ (at : k ≡ i). rw (at, eq-eqb i i refl) (get_or-set_same mask i b false inside))
    (λ (other : k ≡ i → ⊥). rw (ne_eqb k i other) (get_or-set_other mask i k b false other))
    (cases_eq k i)

pub chosen-is : (a b : Bool) → (a || b) ≡ cond a true b
chosen-is true b = refl
chosen-is false b = refl

pub dropped-is : (a b : Bool) → (not a && b) ≡ cond a false b
dropped-is true b = refl
dropped-is false b = refl

-- a range of positions
pub length-filled : (from end : ℕ) (mask : List Bool) → from ≤ end → end ≤ length mask → length (filled from end mask) ≡ length mask
length-filled from end mask order within =
    omega (
      arith,
      order,
      within,
      length-append (take from mask) (replicate (end - from) true ++ drop end mask),
      length-append (replicate (end - from) true) (drop end mask),
      length-replicate (end - from) true,
      length-take from mask,
      length-drop end mask,
    )

pub get_or-filled : (from end k : ℕ) (mask : List Bool) → from ≤ end → end ≤ length mask →
    get_or (filled from end mask) k false ≡ (is_within from end k || get_or mask k false)
get_or-filled from end k mask order within =
    let front = length-take-le from mask (omega arith) in
    ⊎_elim (λ (h : k < from).
    get_or_append_left (take from mask) (replicate (end - from) true ++ drop end mask) false k (omega (arith, front, h))
    ∙ (get_or-take from mask k false h ∙ rw (lt-leb from k h) refl))
    (λ (h : from ≤ k).
    get_or-append_right (take from mask) (replicate (end - from) true ++ drop end mask) from k false front h
    ∙ ⊎_elim (λ (g : k < end).
    get_or_append_left (replicate (end - from) true) (drop end mask) false (k - from) (omega (arith, length-replicate (end - from) true, g, h))
    ∙ (get_or-replicate (end - from) (k - from) true false (omega (arith, g, h)) ∙ rw (le-leb from k h, lt-ltb k end g) refl))
    (λ (g : end ≤ k).
    get_or-append_right (replicate (end - from) true) (drop end mask) (end - from) (k - from) false (length-replicate (end - from) true) (omega (arith, g, h))
    ∙ (get_or-drop end mask (k - from - (end - from)) false ∙ (ap (λ j. get_or mask j false) (let at : end + (k - from - (end - from)) ≡ k = omega (arith, g, h, order) in at)
    ∙ rw (le-ltb k end g, and-false (nat_le from k)) refl)))
    (cases_lt k end))
    (cases_lt k from)

-- a turned mask
pub get_or-turned : (mask : List Bool) (k : ℕ) → get_or (map not mask) k false ≡ (nat_lt k (length mask) && not (get_or mask k false))
get_or-turned mask k =
    ⊎_elim (λ (h : k < length mask). get_or-map not mask k false false h ∙ rw (lt-ltb k (length mask) h) refl)
    (λ (h : length mask ≤ k). get_or_past (map not mask) k false (omega (arith, length-map mask not, h)) ∙ rw (le-ltb k (length mask) h) refl)
    (cases_lt k (length mask))

-- ---- words without a bit

bit_in-zero : (n i : ℕ) → bit_in (replicate {A = ℕ} n 0) i ≡ false
bit_in-zero n i =
    ⊎_elim (λ (h : i / 64 < n). rw (get_or-replicate {A = ℕ} n (i / 64) 0 0 h) (set-of 0 (i % 64) false (bit_at-zero (i % 64))))
    (λ (h : n ≤ i / 64). rw (get_or_past (replicate {A = ℕ} n 0) (i / 64) 0 (omega (arith, length-replicate {A = ℕ} n 0, h))) (set-of 0 (i % 64) false (bit_at-zero (i % 64))))
    (cases_lt (i / 64) n)

small-zero : (n k : ℕ) → get_or (replicate n 0) k 0 < 2 ^ 64
small-zero n k =
    ⊎_elim (λ (h : k < n). rw (get_or-replicate {A = ℕ} n k 0 0 h) (pow_pos 64))
    (λ (h : n ≤ k). rw (get_or_past (replicate {A = ℕ} n 0) k 0 (omega (arith, length-replicate {A = ℕ} n 0, h))) (pow_pos 64))
    (cases_lt k n)

get_or-none : (n i : ℕ) → get_or (replicate n false) i false ≡ false
get_or-none n i =
    ⊎_elim (λ (h : i < n). get_or-replicate n i false false h)
    (λ (h : n ≤ i). get_or_past (replicate n false) i false (omega (arith, length-replicate n false, h)))
    (cases_lt i n)

pub zero-holds : (n count : ℕ) (words : List ℕ) → count ≡ div_ceil n 64 → words ≡ replicate count 0 → Holds words n (replicate n false)
zero-holds n count words is are =
    let mask = replicate n false in
    let size = length-replicate n false in
    let long : length words ≡ div_ceil (length mask) 64 = ap length are ∙ (length-replicate {A = ℕ} count 0 ∙ (is ∙ ap (λ k. div_ceil k 64) (sym size))) in
    holds-words words n mask
    (words-by-bits mask words long (λ k. rw are (small-zero count k)) (λ i h. rw are (bit_in-zero count i ∙ sym (get_or-none n i))))
    size

-- ---- words of flags over a list

below-self : (n k : ℕ) → n % 2 ^ k ≤ n
below-self n k = omega (arith, shr_split n k)

-- a word of the flags of 64 items from a place on: past the last, the bits are cut off
pub word-flags : (p : ℕ → Bool) (items out : List ℕ) (place word left : ℕ) → place * 64 < length items → left ≡ length items - place * 64 →
    word ≡ word_of (map p out) → length out ≡ 64 → ((k : ℕ) → k < 64 → get_or out k 0 ≡ get_or items (place * 64 + k) 0) →
    word % 2 ^ left ≡ word_at (map p items) place
word-flags p items out place word left inside rest is long same =
    let small : word < 2 ^ 64 = rw is (word_of-below (map p out) (omega (arith, length-map out p, long))) in
    word-is (map p items) place (word % 2 ^ left) (lt_of_le_of_lt (below-self word left) small) (λ i low.
    ⊎_elim (λ (h : i < left).
    let there : place * 64 + i < length items = omega (arith, h, rest) in
    set-low word left i h ∙ (ap (λ w. is_set w i) is ∙ (set-word_of (map p out) i
    ∙ (get_or-map p out i 0 false (omega (arith, long, low)) ∙ (ap p (same i low) ∙ sym (get_or-map p items (place * 64 + i) 0 false there))))))
    (λ (h : left ≤ i).
    set-past word left i h ∙ sym (get_or_past (map p items) (place * 64 + i) false (omega (arith, h, rest, length-map items p))))
    (cases_lt i left))

-- no item passes
pub none-pass : (p : ℕ → Bool) (items : List ℕ) → ((x : ℕ) → p x ≡ false) → replicate (length items) false ≡ map p items
none-pass p [] fails = refl
none-pass p (x ∷ xs) fails = rw (fails x, none-pass p xs fails) refl

pub map-same : (p q : ℕ → Bool) (items : List ℕ) → ((x : ℕ) → p x ≡ q x) → map p items ≡ map q items
map-same p q [] same = refl
map-same p q (x ∷ xs) same = rw (same x, map-same p q xs same) refl

pub between-none : (low high code : ℕ) → high < low → is_between low high code ≡ false
between-none low high code over =
    ⊎_elim (λ (h : code < low). rw (lt-leb low code h) refl)
    (λ (h : low ≤ code). rw (lt-leb code high (omega (arith, h, over)), and-false (nat_le low code)) refl)
    (cases_lt code low)

pub within-none : (low code : ℕ) → is_within low 0 code ≡ false
within-none low code = rw (le-ltb code 0 (omega arith)) (and-false (nat_le low code))

pub within-between : (low end code : ℕ) → 0 < end → is_between low (end - 1) code ≡ is_within low end code
within-between low end code some = ap (λ b. nat_le low code && b) (le-lt-same code end some)

-- ---- how many are chosen

count_by-append : (xs ys : List Bool) → count_by (λ (b : Bool). b) (xs ++ ys) ≡ count_by (λ (b : Bool). b) xs + count_by (λ (b : Bool). b) ys
count_by-append xs ys =
    sym (length-filter (λ (b : Bool). b) (xs ++ ys)) ∙ (ap length (filter-append (λ (b : Bool). b) xs ys)
    ∙ (length-append (filter (λ (b : Bool). b) xs) (filter (λ (b : Bool). b) ys)
    ∙ (ap (λ n. n + length (filter (λ (b : Bool). b) ys)) (length-filter (λ (b : Bool). b) xs)
    ∙ ap (λ n. count_by (λ (b : Bool). b) xs + n) (length-filter (λ (b : Bool). b) ys))))

pub count-step : (mask : List Bool) (k : ℕ) → count_by (λ (b : Bool). b) (take ((k + 1) * 64) mask) ≡ count_by (λ (b : Bool). b) (take (k * 64) mask) + count_ones (word_at mask k)
count-step mask k =
    let part = take 64 (drop (k * 64) mask) in
    let sum : (k + 1) * 64 ≡ k * 64 + 64 = omega arith in
    let cut : take (k * 64) mask ++ part ≡ take (k * 64 + 64) mask =
    ap (λ l. l ++ part) (sym (take-take (k * 64) (k * 64 + 64) mask (omega arith)))
    ∙ (ap (λ l. take (k * 64) (take (k * 64 + 64) mask) ++ l) (sym (drop-take (k * 64) 64 mask)) ∙ take-append-drop (k * 64) (take (k * 64 + 64) mask)) in
    let ones : count_ones (word_of part) ≡ count_by (λ (b : Bool). b) part =
    ap count_ones (word_of-lanes part ∙ ap mask_l (sym (map-id part))) ∙ ones-mask_l (λ (b : Bool). b) part in
    rw (sum, ← cut, ones) (count_by-append (take (k * 64) mask) part)

pub count-all : (mask : List Bool) (k : ℕ) → div_ceil (length mask) 64 ≤ k → count_by (λ (b : Bool). b) (take (k * 64) mask) ≡ count_by (λ (b : Bool). b) mask
count-all mask k over =
    let enough = (div_ceil_times (length mask) 64 (omega arith)).0 in
    ap (count_by (λ (b : Bool). b)) (take_all (k * 64) mask (omega (arith, over, enough)))

pub count-few : (mask : List Bool) → count_by (λ (b : Bool). b) mask ≤ length mask
count-few mask = count_by-le-length (λ (b : Bool). b) mask

-- the total of a loop over words
pub count-more : (mask : List Bool) (words : List ℕ) (k total ones : ℕ) → words ≡ words_of mask → k < length words →
    total ≡ count_by (λ (b : Bool). b) (take (k * 64) mask) → ones ≡ count_ones (get_or words k 0) →
    total + ones ≡ count_by (λ (b : Bool). b) (take ((k + 1) * 64) mask)
count-more mask words k total ones are inside so_far is =
    let there : k < div_ceil (length mask) 64 = omega (arith, inside, ap length are, length-words_of mask) in
    let word : ones ≡ count_ones (word_at mask k) = is ∙ (ap (λ ws. count_ones (get_or ws k 0)) are ∙ ap count_ones (get_or-words_of mask k 0 there)) in
    rw (so_far, word) (sym (count-step mask k))

-- the words of the first positions
pub word-first : (mask : List Bool) (end place word : ℕ) → word ≡ word_at mask place % 2 ^ (end - place * 64) → place * 64 < end → word ≡ word_at (take end mask) place
word-first mask end place word is begins =
    let left = end - place * 64 in
    let part = take 64 (drop (place * 64) mask) in
    let small : word_at mask place < 2 ^ 64 = word_of-below part (omega (arith, length-take 64 (drop (place * 64) mask))) in
    is ∙ word-is (take end mask) place (word_at mask place % 2 ^ left) (lt_of_le_of_lt (below-self (word_at mask place) left) small) (λ i low.
    ⊎_elim (λ (h : i < left).
    set-low (word_at mask place) left i h
    ∙ (set-word_at mask place i low ∙ sym (get_or-take end mask (place * 64 + i) false (omega (arith, h)))))
    (λ (h : left ≤ i).
    set-past (word_at mask place) left i h
    ∙ sym (get_or_past (take end mask) (place * 64 + i) false (omega (arith, length-take end mask, h))))
    (cases_lt i left))

pub count-first : (mask : List Bool) (words : List ℕ) (end k total word ones : ℕ) → words ≡ words_of mask → end ≤ length mask → k < div_ceil end 64 →
    total ≡ count_by (λ (b : Bool). b) (take (k * 64) (take end mask)) → word ≡ get_or words k 0 % 2 ^ (end - k * 64) →
    ones ≡ count_ones word → total + ones ≡ count_by (λ (b : Bool). b) (take ((k + 1) * 64) (take end mask))
count-first mask words end k total word ones are within inside so_far is counted =
    let begins = place-begins end k inside in
    let more = place-inside (length mask) (k * 64) (omega (arith, begins, within)) in
    let there : k < div_ceil (length mask) 64 = omega (arith, more) in
    let read : get_or words k 0 ≡ word_at mask k = ap (λ ws. get_or ws k 0) are ∙ get_or-words_of mask k 0 there in
    let here = word-first mask end k word (is ∙ ap (λ w. w % 2 ^ (end - k * 64)) read) begins in
    rw counted (ap (λ n. n + count_ones word) so_far
    ∙ (ap (λ w. count_by (λ (b : Bool). b) (take (k * 64) (take end mask)) + count_ones w) here ∙ sym (count-step (take end mask) k)))

-- the chosen positions below one, and those from it on and below another
pub count-parts : (mask : List Bool) (from end : ℕ) → from ≤ end →
    count_by (λ (b : Bool). b) (take end mask) ≡ count_by (λ (b : Bool). b) (take from mask) + count_by (λ (b : Bool). b) (take (end - from) (drop from mask))
count-parts mask from end order =
    let sum : end ≡ from + (end - from) = omega (arith, order) in
    let cut : take from mask ++ take (end - from) (drop from mask) ≡ take (from + (end - from)) mask =
    ap (λ l. l ++ take (end - from) (drop from mask)) (sym (take-take from (from + (end - from)) mask (omega arith)))
    ∙ (ap (λ l. take from (take (from + (end - from)) mask) ++ l) (sym (drop-take from (end - from) mask)) ∙ take-append-drop from (take (from + (end - from)) mask)) in
    ap (λ n. count_by (λ (b : Bool). b) (take n mask)) sum ∙ (ap (count_by (λ (b : Bool). b)) (sym cut) ∙ count_by-append (take from mask) (take (end - from) (drop from mask)))

-- what a loop over words has counted, from the word of a position on
pub record CountsFrom (mask : List Bool) (from end place total : ℕ) : Type 0 where
  pub begins : from / 64 ≤ place
  pub counted : total + count_by (λ (b : Bool). b) (take (from / 64 * 64) mask) ≡ count_by (λ (b : Bool). b) (take (place * 64) (take end mask))

pub count-begins : (mask : List Bool) (from end : ℕ) → from < end → CountsFrom mask from end (from / 64) 0
count-begins mask from end some = record {
  begins = omega arith;
  counted = zero-add (count_by (λ (b : Bool). b) (take (from / 64 * 64) mask))
      ∙ ap (count_by (λ (b : Bool). b)) (sym (take-take (from / 64 * 64) end mask (omega (arith, some))));
}

pub count-on : (mask : List Bool) (words : List ℕ) (from end k total word ones : ℕ) → words ≡ words_of mask → end ≤ length mask → k < div_ceil end 64 →
    CountsFrom mask from end k total → word ≡ get_or words k 0 % 2 ^ (end - k * 64) → ones ≡ count_ones word → CountsFrom mask from end (k + 1) (total + ones)
count-on mask words from end k total word ones are within inside before is counted =
    let next =
    count-first mask words end k (total + count_by (λ (b : Bool). b) (take (from / 64 * 64) mask)) word ones are within inside before.counted is counted in
    record { begins = omega (arith, before.begins); counted = omega (arith, next) }

pub count-few-from : (mask : List Bool) (from end place total : ℕ) → CountsFrom mask from end place total → total ≤ end
count-few-from mask from end place total counts =
    let all = take (place * 64) (take end mask) in
    omega (arith, counts.counted, count-few all, length-take (place * 64) (take end mask), length-take end mask)

-- no bit is counted in 0
ones-none : count_ones 0 ≡ 0
ones-none = ap count_ones (word_of-lanes [] ∙ ap mask_l (sym (map-id {A = Bool} []))) ∙ ones-mask_l (λ (b : Bool). b) []

-- the first positions of the word of a position
count-rest : (mask : List Bool) (words : List ℕ) (from word ones : ℕ) → words ≡ words_of mask → from ≤ length mask →
    word ≡ get_or words (from / 64) 0 % 2 ^ (from % 64) → ones ≡ count_ones word →
    count_by (λ (b : Bool). b) (take (from / 64 * 64) mask) + ones ≡ count_by (λ (b : Bool). b) (take from mask)
count-rest mask words from word ones are within is counted =
    ⊎_elim (λ (h : from % 64 ≡ 0).
    let place : from / 64 * 64 ≡ from = omega (arith, h) in
    let none : word ≡ 0 = is ∙ (ap (λ r. get_or words (from / 64) 0 % 2 ^ r) h ∙ omega arith) in
    let no_ones : ones ≡ 0 = counted ∙ (ap count_ones none ∙ ones-none) in
    rw (place, no_ones) (omega arith))
    (λ (h : from % 64 ≡ 0 → ⊥).
    let rest : from % 64 ≡ from - from / 64 * 64 = omega arith in
    let inside : from / 64 < div_ceil from 64 = let enough = (div_ceil_times from 64 (omega arith)).0 in omega (arith, enough, h) in
    let next =
    count-first mask words from (from / 64) (count_by (λ (b : Bool). b) (take (from / 64 * 64) (take from mask))) word ones are within inside refl
    (is ∙ ap (λ r. get_or words (from / 64) 0 % 2 ^ r) rest) counted in
    let all : take ((from / 64 + 1) * 64) (take from mask) ≡ take from mask =
    take_all ((from / 64 + 1) * 64) (take from mask) (omega (arith, length-take from mask)) in
    ap (λ l. count_by (λ (b : Bool). b) l + ones) (sym (take-take (from / 64 * 64) from mask (omega arith))) ∙ (next ∙ ap (count_by (λ (b : Bool). b)) all))
    (cases_eq (from % 64) 0)

-- all words, without the first positions of the first one
pub count-ends : (mask : List Bool) (words : List ℕ) (from end place total word ones : ℕ) → words ≡ words_of mask → from < end → end ≤ length mask →
    div_ceil end 64 ≤ place → CountsFrom mask from end place total → word ≡ get_or words (from / 64) 0 % 2 ^ (from % 64) → ones ≡ count_ones word →
    (ones ≤ total) × (total - ones ≡ count_by (λ (b : Bool). b) (take (end - from) (drop from mask)))
count-ends mask words from end place total word ones are some within over counts is counted =
    let enough = (div_ceil_times end 64 (omega arith)).0 in
    let whole : take (place * 64) (take end mask) ≡ take end mask = take_all (place * 64) (take end mask) (omega (arith, length-take end mask, over, enough)) in
    let parts = count-parts mask from end (omega (arith, some)) in
    let first = count-rest mask words from word ones are (omega (arith, some, within)) is counted in
    let sum = counts.counted ∙ ap (count_by (λ (b : Bool). b)) whole in
    (omega (arith, sum, first, parts), omega (arith, sum, first, parts))

-- ---- words bit by bit

pub push-bit : (bits : List Bool) (k : ℕ) (bit : Bool) (word : ℕ) → k < length bits → bit ≡ get_or bits k false → word ≡ word_of (take k bits) →
    word + cond bit 1 0 * 2 ^ k ≡ word_of (take (k + 1) bits)
push-bit bits k bit word inside is so_far =
    rw (take_more bits k false inside, ← is, word_of-push (take k bits) bit, length-take-le k bits (omega arith), so_far) refl

pub word_of-few : (bits : List Bool) (k : ℕ) → word_of (take k bits) < 2 ^ k
word_of-few bits k =
    lt_of_lt_of_le (let below = mask_l-lt (take k bits) in rw (word_of-lanes (take k bits)) below)
    (pow-le-pow_right (omega arith) (let few : length (take k bits) ≤ k = omega (arith, length-take k bits) in few))

-- a word of the flags of the codes that are left, at most 64
pub word-taken : (p : ℕ → Bool) (items out : List ℕ) (place word left : ℕ) → left ≡ min (length items - place * 64) 64 → word ≡ word_of (map p (take left out)) →
    length out ≡ 64 → ((k : ℕ) → k < 64 → get_or out k 0 ≡ get_or items (place * 64 + k) 0) → word ≡ word_at (map p items) place
word-taken p items out place word left rest is long same =
    let short : length (take left out) ≡ left = length-take-le left out (omega (arith, rest, long)) in
    let size : length (map p (take left out)) ≡ left = length-map (take left out) p ∙ short in
    let part = take 64 (drop (place * 64) (map p items)) in
    let size_part : length part ≡ left =
    omega (arith, length-take 64 (drop (place * 64) (map p items)), length-drop (place * 64) (map p items), length-map items p, rest) in
    is ∙ ap word_of (same_lists (map p (take left out)) part (size ∙ sym size_part) (λ k d h.
    let low : k < left = omega (arith, size, h) in
    let there : place * 64 + k < length items = omega (arith, low, rest) in
    get_or-map p (take left out) k 0 d (omega (arith, short, low))
    ∙ (ap p (get_or-take left out k 0 low ∙ same k (omega (arith, low, rest)))
    ∙ (sym (get_or-map p items (place * 64 + k) 0 d there)
    ∙ (sym (get_or-drop (place * 64) (map p items) k d) ∙ sym (get_or-take 64 (drop (place * 64) (map p items)) k d (omega (arith, low, rest))))))))

-- what holds of all codes holds of those that are left
pub taken-below : (items out : List ℕ) (place left most : ℕ) → left ≡ min (length items - place * 64) 64 → length out ≡ 64 →
    ((k : ℕ) → k < 64 → get_or out k 0 ≡ get_or items (place * 64 + k) 0) → All (λ code. code < most) items → All (λ code. code < most) (take left out)
taken-below items out place left most rest long same all k d h =
    let short : length (take left out) ≡ left = length-take-le left out (omega (arith, rest, long)) in
    let low : k < left = omega (arith, short, h) in
    let there : place * 64 + k < length items = omega (arith, low, rest) in
    let here : get_or (take left out) k d ≡ get_or items (place * 64 + k) 0 =
    get_or_default (take left out) k d 0 h ∙ (get_or-take left out k 0 low ∙ same k (omega (arith, low, rest))) in
    rw here (all (place * 64 + k) 0 there)
