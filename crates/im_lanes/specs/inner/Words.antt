-- Words while bits of them are written.
use Rattle.std.specs.Prelude.{◌≡◌, ℕ, ◌*◌, ◌^◌, ◌<◌, Bool, List, length, slice_index}
use Rattle.im_lanes.specs.Masks.{bit_in}

-- words of 64 bits with these bits, from the lowest of the first one on
pub record HaveBits (bit : ℕ → Bool) (words : List ℕ) : Type 0 where
  pub small : (k : ℕ) → slice_index words k < 2 ^ 64
  pub bits : (i : ℕ) → i < length words * 64 → bit_in words i ≡ bit i
