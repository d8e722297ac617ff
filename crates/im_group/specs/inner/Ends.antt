-- The ends of a text as one number.
use Rattle.std.specs.Prelude.{◌≡◌, ℕ, ◌+◌, ◌-◌, ◌*◌, ◌/◌, ◌^◌, nat_le, List, [], ◌∷◌, length, slice_index, if◌then◌else◌}
use Rattle.im_values.specs.declared.content.Content.{Content as Value}
use Rattle.im_values.specs.declared.content.Content.TheVariants.{Int, Text, Null}
use Rattle.im_group.specs.declared.same.Sought.{Sought}

-- four bytes from a place on, the first of which is the lowest
abbrev pub quad_at : List ℕ → ℕ → ℕ
quad_at bytes at =
    slice_index bytes at + slice_index bytes (at + 1) * 256 + slice_index bytes (at + 2) * 65536 + slice_index bytes (at + 3) * 16777216

-- of fewer than four bytes the first, the middle one and the last
abbrev pub few_of : List ℕ → ℕ
few_of [] = 0
few_of (byte ∷ bytes) =
    byte + slice_index (byte ∷ bytes) (length (byte ∷ bytes) / 2) * 256 + slice_index (byte ∷ bytes) (length bytes) * 65536

-- of four bytes and more the first four and the last four
abbrev pub ends_of : List ℕ → ℕ
ends_of bytes = if nat_le 4 (length bytes) then quad_at bytes 0 + quad_at bytes (length bytes - 4) * 2 ^ 32 else few_of bytes

-- the ends of the text that a value is, and 0 where it is none
abbrev pub ends_in : Value → ℕ
ends_in (Int number) = 0
ends_in (Text text) = ends_of text
ends_in Null = 0

-- a value is looked for, and the ends of its text are told
abbrev pub IsSought : Sought → Type 0
IsSought sought = sought.ends ≡ ends_in sought.value.now
