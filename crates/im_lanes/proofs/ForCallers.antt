-- What those need who make words of their own, or go over chosen positions.
use Rattle.std.proofs.Common.{◌≡◌, ◌||◌, ℕ, ◌+◌, ◌*◌, ◌^◌, ◌<◌, ◌≤◌, Bool, false, cond, List, ◌∷◌, [], ◌++◌, length, take, get_or}
use Rattle.std.specs.Int.{div_ceil}
use Rattle.im_lanes.specs.Masks.{is_set, bits_in, word_of, word_at, words_of, joined, filled, is_within}
use Rattle.im_lanes.proofs.MaskLemmas as mask

-- a word below 2^64 with the bits of a mask at a place is the word of the mask there
pub word-is : (m : List Bool) (place word : ℕ) → word < 2 ^ 64 → ((i : ℕ) → i < 64 → is_set word i ≡ get_or m (place * 64 + i) false) → word ≡ word_at m place
word-is = mask.word-is

-- the bits of the word of a mask
pub set-word_at : (m : List Bool) (place i : ℕ) → i < 64 → is_set (word_at m place) i ≡ get_or m (place * 64 + i) false
set-word_at = mask.set-word_at

-- the words of a mask, by number and one by one
pub length-words_of : (m : List Bool) → length (words_of m) ≡ div_ceil (length m) 64
length-words_of = mask.length-words_of

pub get_or-words_of : (m : List Bool) (place d : ℕ) → place < div_ceil (length m) 64 → get_or (words_of m) place d ≡ word_at m place
get_or-words_of = mask.get_or-words_of

-- a word begins inside the mask
pub place-begins : (n place : ℕ) → place < div_ceil n 64 → place * 64 < n
place-begins = mask.place-begins

-- words of a mask hold it, and are whole
pub words-hold : (words : List ℕ) (n : ℕ) (m : List Bool) → words ≡ words_of m → length m ≡ n → bits_in words n ≡ m
words-hold = mask.words-hold

pub words-whole : (words : List ℕ) (n : ℕ) (m : List Bool) → words ≡ words_of m → length m ≡ n → words ≡ words_of (bits_in words n)
words-whole = mask.words-whole

-- one more word, and all words
pub words-more : (m : List Bool) (place : ℕ) (words : List ℕ) (word : ℕ) → place < div_ceil (length m) 64 → words ≡ take place (words_of m) →
    word ≡ word_at m place → words ++ word ∷ [] ≡ take (place + 1) (words_of m)
words-more = mask.words-more

pub words-all : (m : List Bool) (place : ℕ) (words : List ℕ) → div_ceil (length m) 64 ≤ place → words ≡ take place (words_of m) → words ≡ words_of m
words-all = mask.words-all

-- a word bit by bit
pub push-bit : (bits : List Bool) (k : ℕ) (b : Bool) (word : ℕ) → k < length bits → b ≡ get_or bits k false → word ≡ word_of (take k bits) →
    word + cond b 1 0 * 2 ^ k ≡ word_of (take (k + 1) bits)
push-bit = mask.push-bit

pub word_of-few : (bits : List Bool) (k : ℕ) → word_of (take k bits) < 2 ^ k
word_of-few = mask.word_of-few

-- two masks joined, by number and position by position
pub length-joined : (f : Bool → Bool → Bool) (xs ys : List Bool) → length xs ≡ length ys → length (joined f xs ys) ≡ length xs
length-joined = mask.length-joined

pub get_or-joined : (f : Bool → Bool → Bool) → f false false ≡ false → (xs ys : List Bool) (i : ℕ) → length xs ≡ length ys →
    get_or (joined f xs ys) i false ≡ f (get_or xs i false) (get_or ys i false)
get_or-joined = mask.get_or-joined

-- a filled mask, by number and position by position
pub length-filled : (from end : ℕ) (m : List Bool) → from ≤ end → end ≤ length m → length (filled from end m) ≡ length m
length-filled = mask.length-filled

pub get_or-filled : (from end k : ℕ) (m : List Bool) → from ≤ end → end ≤ length m →
    get_or (filled from end m) k false ≡ (is_within from end k || get_or m k false)
get_or-filled = mask.get_or-filled
