-- Flags in words of 64 bits.
use Rattle.std.proofs.Common.{◌≡◌, ◌≢◌, ℕ, ◌+◌, ◌-◌, ◌*◌, ◌/◌, ◌%◌, ◌^◌, ◌<◌, ◌≤◌, ◌==◌, Bool, true, false, not, List, [], ◌++◌, length, take, get_or, set, bit_and, bit_or, refl, sym, ap, ◌∙◌, ⊎_elim, arith}
use Rattle.std.specs.Prelude.{replicate}
use Rattle.std.specs.Int.{bit_at, bit_not, w64, trailing_zeros, trailing_ones}
use Rattle.std.proofs.lemmas.Bool.{cases_eq, cases_lt}
use Rattle.std.proofs.lemmas.List.{ext_get_or, get_or-set_same, get_or-set_other, get_or_past, length-set, get_or_append_left, get_or-append-add, get_or-replicate, length-replicate, length-append, take_all}
use Rattle.std.proofs.lemmas.List.FromFn.{get_or-map-range_with_len, length-map-range_with_len}
use Rattle.std.proofs.lemmas.Nat.Bits.{bit_at-zero, bit_at_ones, bit_at_set_same, bit_at_set_other, bit_at_clear_same, bit_at_clear_other, bit_at-trailing_zeros, bit_at-trailing_ones}
use Rattle.im_tables.specs.Flags.{IsLeast, NoneUp}
use Rattle.im_tables.specs.Table.{IsPadded, cell_at, row_of}
use Rattle.im_tables.specs.inner.Words.{is_up, flag_in, flags_of, HasFlag, IsLowest, IsHint, IsFirst, AreDown}

-- ---- one word

bit-up : (word place : ℕ) → bit_at word place ≡ 1 → is_up word place ≡ true
bit-up word place is = ap (λ (b : ℕ). b == 1) is

bit-down : (word place : ℕ) → bit_at word place ≡ 0 → is_up word place ≡ false
bit-down word place is = ap (λ (b : ℕ). b == 1) is

pub flag-raised : (word place : ℕ) → place < 64 → HasFlag word place true (bit_or word (1 * 2 ^ place % 2 ^ 64))
flag-raised word place low = record {
  here = bit-up _ place (bit_at_set_same w64 word place low);
  others = λ other below apart. ap (λ (b : ℕ). b == 1) (bit_at_set_other w64 word place low other apart);
}

pub flag-lowered : (word place : ℕ) → place < 64 → HasFlag word place false (bit_and word (bit_not w64 (1 * 2 ^ place % 2 ^ 64)))
flag-lowered word place low = record {
  here = bit-down _ place (bit_at_clear_same w64 word place low);
  others = λ other below apart. ap (λ (b : ℕ). b == 1) (bit_at_clear_other w64 word place low other below apart);
}

pub lowest-up : (word : ℕ) → word ≢ 0 → word < 2 ^ 64 → IsLowest true word (trailing_zeros w64 word)
lowest-up word some fits =
    let law = bit_at-trailing_zeros w64 word (omega arith) fits in
    record { within = law.0; is = bit-up word _ law.1; before = λ other low. bit-down word other (law.2 other low) }

pub lowest-down : (word : ℕ) → word ≢ 2 ^ 64 - 1 → word < 2 ^ 64 → IsLowest false word (trailing_ones w64 word)
lowest-down word some fits =
    let law = bit_at-trailing_ones w64 word (omega arith) in
    record { within = law.0; is = bit-down word _ law.1; before = λ other low. bit-up word other (law.2 other low) }

-- ---- all words

pub length-flags_of : (words : List ℕ) → length (flags_of words) ≡ 64 * length words
unfolding flags_of
length-flags_of words = length-map-range_with_len (flag_in words) 0 (64 * length words)

-- a flag is that of its word, also past the end
pub get_or-flags_of : (words : List ℕ) (number : ℕ) → get_or (flags_of words) number false ≡ flag_in words number
unfolding flags_of
get_or-flags_of words number =
    ⊎_elim
    (λ (inside : number < 64 * length words). get_or-map-range_with_len (flag_in words) 0 (64 * length words) number number false inside (omega arith))
    (λ (past : 64 * length words ≤ number).
    let none : length (flags_of words) ≤ number = omega (arith, length-flags_of words, past) in
    let word : get_or words (number / 64) 0 ≡ 0 = get_or_past words (number / 64) 0 (omega (arith, past)) in
    get_or_past (flags_of words) number false none
    ∙ sym (ap (λ (w : ℕ). is_up w (number % 64)) word ∙ bit-down 0 (number % 64) (bit_at-zero (number % 64))))
    (cases_lt number (64 * length words))

pub flags_of-nil : flags_of [] ≡ []
unfolding flags_of
flags_of-nil = refl

-- the word of a number that is there
pub word-inside : (words : List ℕ) (number : ℕ) → number < length (flags_of words) → number / 64 < length words
word-inside words number inside = omega (arith, length-flags_of words, inside)

-- one flag is another
pub set-flags_of : (words : List ℕ) (number : ℕ) (flag : Bool) (word : ℕ) → number < length (flags_of words) →
    HasFlag (get_or words (number / 64) 0) (number % 64) flag word → flags_of (set words (number / 64) word) ≡ set (flags_of words) number flag
set-flags_of words number flag word inside has =
    let index = number / 64 in
    let new = set words index word in
    let there : index < length words = word-inside words number inside in
    let long : length (flags_of new) ≡ length (set (flags_of words) number flag) =
    length-flags_of new ∙ (ap (λ (n : ℕ). 64 * n) (length-set words index word)
    ∙ (sym (length-flags_of words) ∙ sym (length-set (flags_of words) number flag))) in
    let here = get_or-set_same words index word 0 there in
    let same : (i : ℕ) → get_or (flags_of new) i false ≡ get_or (set (flags_of words) number flag) i false = λ i.
    ⊎_elim
    (λ (is : i ≡ number).
    ap (λ (k : ℕ). get_or (flags_of new) k false) is
    ∙ (get_or-flags_of new number ∙ (ap (λ (w : ℕ). is_up w (number % 64)) here ∙ (has.here
    ∙ sym (ap (λ (k : ℕ). get_or (set (flags_of words) number flag) k false) is ∙ get_or-set_same (flags_of words) number flag false inside)))))
    (λ (apart : i ≡ number → ⊥).
    get_or-flags_of new i
    ∙ (⊎_elim
    (λ (in_word : i / 64 ≡ index).
    ap (λ (k : ℕ). is_up (get_or new k 0) (i % 64)) in_word
    ∙ (ap (λ (w : ℕ). is_up w (i % 64)) here
    ∙ (has.others (i % 64) (omega arith) (λ (e : i % 64 ≡ number % 64). apart (omega (arith, e, in_word)))
    ∙ ap (λ (k : ℕ). is_up (get_or words k 0) (i % 64)) (sym in_word))))
    (λ (other : i / 64 ≡ index → ⊥). ap (λ (w : ℕ). is_up w (i % 64)) (get_or-set_other words index (i / 64) word 0 other))
    (cases_eq (i / 64) index)
    ∙ (sym (get_or-flags_of words i) ∙ sym (get_or-set_other (flags_of words) number i flag false apart))))
    (cases_eq i number) in
    ext_get_or false (flags_of new) (set (flags_of words) number flag) long (λ i below. same i)

-- ---- the first number

first-in_word : (flag : Bool) (words : List ℕ) (hint place : ℕ) → ((other : ℕ) → other < 64 * hint → flag_in words other ≡ not flag) →
    IsLowest flag (get_or words hint 0) place → IsFirst flag (flags_of words) (64 * hint + place)
first-in_word flag words hint place before lowest =
    let within = lowest.within in
    let word : (64 * hint + place) / 64 ≡ hint = omega (arith, within) in
    let rest : (64 * hint + place) % 64 ≡ place = omega (arith, within) in
    record {
      is =
          get_or-flags_of words (64 * hint + place) ∙ (ap (λ (k : ℕ). is_up (get_or words k 0) ((64 * hint + place) % 64)) word
          ∙ (ap (λ (r : ℕ). is_up (get_or words hint 0) r) rest ∙ lowest.is));
      before = λ other below. get_or-flags_of words other
          ∙ ⊎_elim (λ (under : other < 64 * hint). before other under)
          (λ (over : 64 * hint ≤ other).
          let at : other / 64 ≡ hint = omega (arith, within, below, over) in
          let low : other % 64 < place = omega (arith, within, below, over) in
          ap (λ (k : ℕ). is_up (get_or words k 0) (other % 64)) at ∙ lowest.before (other % 64) low)
          (cases_lt other (64 * hint));
    }

pub first-up : (words : List ℕ) (hint word place : ℕ) → IsHint 0 words hint → word ≡ get_or words hint 0 → IsLowest true word place →
    IsFirst true (flags_of words) (64 * hint + place)
first-up words hint word place is at lowest =
    first-in_word true words hint place
    (λ other under. let inside : other / 64 < hint = omega (arith, under) in
    ap (λ (w : ℕ). is_up w (other % 64)) (is.before.each (other / 64) inside) ∙ bit-down 0 (other % 64) (bit_at-zero (other % 64)))
    (rw (← at) lowest)

pub first-down : (words : List ℕ) (hint word place : ℕ) → IsHint (2 ^ 64 - 1) words hint → word ≡ get_or words hint 0 → IsLowest false word place →
    IsFirst false (flags_of words) (64 * hint + place)
first-down words hint word place is at lowest =
    first-in_word false words hint place
    (λ other under. let inside : other / 64 < hint = omega (arith, under) in
    ap (λ (w : ℕ). is_up w (other % 64)) (is.before.each (other / 64) inside)
    ∙ bit-up (2 ^ 64 - 1) (other % 64) (bit_at_ones 64 (other % 64) (omega arith)))
    (rw (← at) lowest)

-- the word at the hint has a flag that is down, or none is there
pub word-not_up : (words : List ℕ) (hint word : ℕ) → IsHint (2 ^ 64 - 1) words hint → word ≡ get_or words hint 0 → word ≢ 2 ^ 64 - 1
word-not_up words hint word is at =
    ⊎_elim (λ (inside : hint < length words). λ (e : word ≡ 2 ^ 64 - 1). is.other inside (sym at ∙ e))
    (λ (past : length words ≤ hint). λ (e : word ≡ 2 ^ 64 - 1). let none = get_or_past words hint 0 past in absurd (omega (arith, at, e, none)))
    (cases_lt hint (length words))

pub down-all : (words : List ℕ) (hint : ℕ) → IsHint 0 words hint → length words ≤ hint → AreDown (flags_of words)
down-all words hint is past = record {
  each = λ number.
      get_or-flags_of words number
      ∙ (ap (λ (w : ℕ). is_up w (number % 64))
      (⊎_elim (λ (inside : number / 64 < hint). is.before.each (number / 64) inside)
      (λ (beyond : hint ≤ number / 64). get_or_past words (number / 64) 0 (omega (arith, past, beyond)))
      (cases_lt (number / 64) hint))
      ∙ bit-down 0 (number % 64) (bit_at-zero (number % 64)));
}

-- ---- growth

-- words whose flags are all down
abbrev blanks : ℕ → List ℕ
blanks count = replicate count 0

-- words of 0 are added
pub words-more : (words : List ℕ) (count i : ℕ) → get_or (words ++ blanks count) i 0 ≡ get_or words i 0
words-more words count i =
    ⊎_elim
    (λ (inside : i < length words). get_or_append_left words (blanks count) 0 i inside)
    (λ (past : length words ≤ i).
    let rest = i - length words in
    let at : length words + rest ≡ i = omega (arith, past) in
    ap (λ (k : ℕ). get_or (words ++ blanks count) k 0) (sym at)
    ∙ (get_or-append-add words (blanks count) rest 0 ∙ (zeros count rest ∙ sym (get_or_past words i 0 past))))
    (cases_lt i (length words))
  where
    zeros : (count i : ℕ) → get_or (blanks count) i 0 ≡ 0
    zeros count i =
        ⊎_elim (λ (inside : i < count). get_or-replicate count i 0 0 inside)
        (λ (past : count ≤ i). get_or_past (blanks count) i 0 (omega (arith, past, length-replicate {A = ℕ} count 0)))
        (cases_lt i count)

-- no flag is another
pub flags-more : (words : List ℕ) (count : ℕ) → IsPadded false (flags_of words) (flags_of (words ++ blanks count))
flags-more words count = record {
  each = λ i.
      get_or-flags_of (words ++ blanks count) i
      ∙ (ap (λ (w : ℕ). is_up w (i % 64)) (words-more words count (i / 64)) ∙ sym (get_or-flags_of words i));
  longer = let more = length-append words (blanks count) in
      omega (arith, length-flags_of words, length-flags_of (words ++ blanks count), more);
}

-- the flags of words to which some were added
pub flags-resized : (words new : List ℕ) (size count : ℕ) → length words ≤ size → new ≡ take size words ++ blanks count →
    IsPadded false (flags_of words) (flags_of new)
flags-resized words new size count long is =
    let grown : new ≡ words ++ blanks count = is ∙ ap (λ (l : List ℕ). l ++ blanks count) (take_all size words long) in
    rw grown (flags-more words count)

-- ---- tables

-- the least number of a table is the first of its flags
pub IsLeast-first : (flag : Bool) (flags : List (List Bool)) (table number : ℕ) (line : List Bool) → line ≡ row_of flags table → IsFirst flag line number →
    IsLeast flag flags table number
unfolding cell_at
IsLeast-first flag flags table number line is first = record {
  is = ap (λ (row : List Bool). get_or row number false) (sym is) ∙ first.is;
  before = λ other below. ap (λ (row : List Bool). get_or row other false) (sym is) ∙ first.before other below;
}

pub NoneUp-down : (flags : List (List Bool)) (table : ℕ) (line : List Bool) → line ≡ row_of flags table → AreDown line → NoneUp flags table
unfolding cell_at
NoneUp-down flags table line is down = record { each = λ number. ap (λ (row : List Bool). get_or row number false) (sym is) ∙ down.each number }

-- past the last table all flags are down
pub flags-past : (flags : List (List Bool)) (table number : ℕ) → length flags ≤ table → cell_at false flags table number ≡ false
unfolding cell_at
flags-past flags table number past =
    ap (λ (row : List Bool). get_or row number false) (get_or_past flags table [] past) ∙ get_or_past [] number false (omega arith)

pub IsLeast-past : (flags : List (List Bool)) (table : ℕ) → length flags ≤ table → IsLeast false flags table 0
IsLeast-past flags table past = record { is = flags-past flags table 0 past; before = λ other below. absurd (omega (arith, below)) }

pub NoneUp-past : (flags : List (List Bool)) (table : ℕ) → length flags ≤ table → NoneUp flags table
NoneUp-past flags table past = record { each = λ number. flags-past flags table number past }
