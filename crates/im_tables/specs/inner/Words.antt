-- The flags of one table in words of 64 bits, and where the first word stands that holds one.
use Rattle.std.specs.Prelude.{◌≡◌, ℕ, ◌*◌, ◌/◌, ◌%◌, ◌-◌, ◌^◌, ◌<◌, ◌≤◌, ◌≢◌, ◌==◌, Bool, false, not, List, length, map, get_or, slice_index}
use Rattle.std.specs.Int.{bit_at}
use Rattle.std.specs.List.{range_with_len}

-- the flag at a place of a word, from the lowest bit on
abbrev pub is_up : ℕ → ℕ → Bool
is_up word place = bit_at word place == 1

-- the flag of a number, read from the words
abbrev pub flag_in : List ℕ → ℕ → Bool
flag_in words number = is_up (slice_index words (number / 64)) (number % 64)

-- the flags that words hold
unfoldable pub flags_of : List ℕ → List Bool
flags_of words = map (flag_in words) (range_with_len 0 (64 * length words))

-- a word is another in one flag alone
pub record HasFlag (old place : ℕ) (flag : Bool) (new : ℕ) : Type 0 where
  pub here : is_up new place ≡ flag
  pub others : (other : ℕ) → other < 64 → other ≢ place → is_up new other ≡ is_up old other

-- the lowest place of a word whose flag is this one
pub record IsLowest (flag : Bool) (word place : ℕ) : Type 0 where
  pub within : place < 64
  pub is : is_up word place ≡ flag
  pub before : (other : ℕ) → other < place → is_up word other ≡ not flag

-- the words before a place are all this one, but for one of them
pub record AreBeforeBut (blank : ℕ) (words : List ℕ) (index place : ℕ) : Type 0 where
  pub each : (i : ℕ) → i < place → i ≢ index → slice_index words i ≡ blank
  pub within : place ≤ length words

-- the words before a place are all this one
pub record AreBefore (blank : ℕ) (words : List ℕ) (place : ℕ) : Type 0 where
  pub each : (i : ℕ) → i < place → slice_index words i ≡ blank
  pub within : place ≤ length words

-- the place of the first word that is another than this one, or the number of words where there is none
pub record IsHint (blank : ℕ) (words : List ℕ) (hint : ℕ) : Type 0 where
  pub before : AreBefore blank words hint
  pub other : hint < length words → slice_index words hint ≢ blank

-- the hints are right, and each number fits 64 bits
pub record IsLine (words : List ℕ) (up down : ℕ) : Type 0 where
  pub first_up : IsHint 0 words up
  pub first_down : IsHint (2 ^ 64 - 1) words down
  pub few : length words < 2 ^ 58

-- the least number of a list whose flag is this one
pub record IsFirst (flag : Bool) (flags : List Bool) (number : ℕ) : Type 0 where
  pub is : get_or flags number false ≡ flag
  pub before : (other : ℕ) → other < number → get_or flags other false ≡ not flag

-- no flag of a list is up
pub record AreDown (flags : List Bool) : Type 0 where
  pub each : (number : ℕ) → get_or flags number false ≡ false
