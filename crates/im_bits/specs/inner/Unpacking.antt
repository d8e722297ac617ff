-- Words while they are unpacked.
use Rattle.std.specs.Prelude.{◌≡◌, ℕ, ◌+◌, ◌*◌, ◌/◌, ◌%◌, ◌^◌, ◌<◌, List, slice_index}
use Rattle.im_bits.specs.Packed.{code_in}

-- so many codes of a word stand in a list from a place on, and what was before that place stands as it was
pub record HasFields (width word at count : ℕ) (old new : List ℕ) : Type 0 where
  pub fields : (j : ℕ) → j < count → slice_index new (at + j) ≡ word / 2 ^ (j * width) % 2 ^ width
  pub before : (k : ℕ) → k < at → slice_index new k ≡ slice_index old k

-- a list begins with so many of the codes that words have from a place on
pub record HasCodesOf (width : ℕ) (words : List ℕ) (first count : ℕ) (out : List ℕ) : Type 0 where
  pub codes : (k : ℕ) → k < count → slice_index out k ≡ code_in width words (first + k)
