-- Lists of codes of one width, and the words of 64 bits that hold them.
pub use Rattle.im_values.specs.Sizes.{codes_per_word, words_for}
use Rattle.std.specs.Prelude.{◌≡◌, ℕ, ◌+◌, ◌-◌, ◌*◌, ◌/◌, ◌%◌, ◌^◌, ◌<◌, List, [], ◌∷◌, length, map, take, drop, slice_index}
use Rattle.std.specs.List.{range_with_len}

-- packed codes as contracts see them: the bits of each, and the codes in order
pub record Packed : Type 0 where
  pub width : ℕ
  pub codes : List ℕ

-- one word: the first code in the lowest bits
abbrev pub word_of : ℕ → List ℕ → ℕ
word_of width [] = 0
word_of width (code ∷ codes) = code + word_of width codes * 2 ^ width

-- the codes that a word holds, from its place among the words
abbrev pub share_of : ℕ → List ℕ → ℕ → List ℕ
share_of width codes place = take (codes_per_word width) (drop (place * codes_per_word width) codes)

-- the words of a list of codes
unfoldable pub words_of : ℕ → List ℕ → List ℕ
words_of width codes = map (λ place. word_of width (share_of width codes place)) (range_with_len 0 (words_for (length codes) width))

-- the code at a place, read from the words
abbrev pub code_in : ℕ → List ℕ → ℕ → ℕ
code_in width words place =
    slice_index words (place / codes_per_word width) / 2 ^ (place % codes_per_word width * width) % 2 ^ width

-- so many codes, read from the words
unfoldable pub codes_in : ℕ → List ℕ → ℕ → List ℕ
codes_in width words n = map (code_in width words) (range_with_len 0 n)

-- 64 codes of a list from a place on: 0 past its end
abbrev pub HasCodesFrom : List ℕ → ℕ → List ℕ → Type 0
HasCodesFrom codes first out = (k : ℕ) → k < 64 → slice_index out k ≡ slice_index codes (first + k)

-- a block of 512 codes of a list from a place on: 0 past its end
abbrev pub HasBlockFrom : List ℕ → ℕ → List ℕ → Type 0
HasBlockFrom codes first out = (k : ℕ) → k < 512 → slice_index out k ≡ slice_index codes (first + k)

-- the block of a number from 1 on is held; 0 is that of none
abbrev pub IsHeld : List ℕ → ℕ → List ℕ → Type 0
IsHeld codes held out = 0 < held → HasBlockFrom codes ((held - 1) * 512) out
