-- Lists of truth values, and the words of 64 bits that hold them.
use Rattle.std.specs.Prelude.{ℕ, ◌+◌, ◌-◌, ◌*◌, ◌/◌, ◌%◌, ◌^◌, ◌==◌, ◌&&◌, Bool, true, List, [], ◌∷◌, ◌++◌, length, replicate, map, take, drop, nat_le, nat_lt, slice_index, if◌then◌else◌}
use Rattle.std.specs.List.{range_with_len}
use Rattle.std.specs.Int.{div_ceil}

-- whether the bit of a number at a place is set, counted from the lowest
abbrev pub is_set : ℕ → ℕ → Bool
is_set word i = word / 2 ^ i % 2 == 1

-- the bit at a position, read from the words
abbrev pub bit_in : List ℕ → ℕ → Bool
bit_in words i = is_set (slice_index words (i / 64)) (i % 64)

-- so many bits, read from the words
unfoldable pub bits_in : List ℕ → ℕ → List Bool
bits_in words n = map (bit_in words) (range_with_len 0 n)

-- the number whose bits are these: the first is the lowest
abbrev pub word_of : List Bool → ℕ
word_of [] = 0
word_of (bit ∷ bits) = (if bit then 1 else 0) + 2 * word_of bits

-- the word that holds the 64 positions of a place among the words: the first in its lowest bit
abbrev pub word_at : List Bool → ℕ → ℕ
word_at mask place = word_of (take 64 (drop (place * 64) mask))

-- the words of a mask: bits past its end are 0
unfoldable pub words_of : List Bool → List ℕ
words_of mask = map (word_at mask) (range_with_len 0 (div_ceil (length mask) 64))

-- a number lies between two others, both ends in
abbrev pub is_between : ℕ → ℕ → ℕ → Bool
is_between low high code = nat_le low code && nat_le code high

-- a number lies from one on and below another
abbrev pub is_within : ℕ → ℕ → ℕ → Bool
is_within low end code = nat_le low code && nat_lt code end

-- two masks joined, position by position
abbrev pub joined : (Bool → Bool → Bool) → List Bool → List Bool → List Bool
joined f [] ys = []
joined f (x ∷ xs) [] = []
joined f (x ∷ xs) (y ∷ ys) = f x y ∷ joined f xs ys

-- a mask in which the positions from one on and below another are chosen too
abbrev pub filled : ℕ → ℕ → List Bool → List Bool
filled from end mask = take from mask ++ (replicate (end - from) true ++ drop end mask)
