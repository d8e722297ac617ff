-- Masks of the parts of a condition, while they are joined.
use Rattle.std.specs.Prelude.{◌≡◌, ℕ, ◌<◌, ◌&&◌, ◌||◌, Bool, false, List, length, get_or, if◌then◌else◌}

-- what two parts say of a row: both of them, or one of them
abbrev pub part : Bool → Bool → Bool → Bool
part both a b = if both then a && b else a || b

-- a mask of so many rows, and with it the parts that are left, say of each row what the whole says
pub record AreJoined (both : Bool) (rest whole : ℕ → Bool) (n : ℕ) (mask : List Bool) : Type 0 where
  pub size : length mask ≡ n
  pub rows : (i : ℕ) → i < n → part both (get_or mask i false) (rest i) ≡ whole i
