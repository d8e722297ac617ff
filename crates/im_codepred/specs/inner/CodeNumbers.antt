-- Dictionaries of numbers that follow one another.
use Rattle.std.specs.Prelude.{◌≡◌, ℕ, suc, ◌-◌, ◌^◌, ◌<◌, List, length, get_or, Option, Some, None, ℤ, pos, ◌+ℤ◌, ◌≤ℤ◌, ⊤}
use Rattle.im_values.specs.declared.content.Content.{Content as Value}
use Rattle.im_values.specs.declared.content.Content.TheVariants.{Int, Null}
use Rattle.im_codepred.specs.inner.Tallying.{number_at}

-- each code from 1 on stands for the number that is one above that of the code before it; code 1 stands for this one
pub record AreFrom (dict : List Value) (first : ℤ) : Type 0 where
  pub each : (k : ℕ) → k < length dict → number_at dict (suc k) ≡ (first +ℤ pos k)
  pub small : (first +ℤ pos (length dict)) ≤ℤ pos (2 ^ 63)

-- the number of code 1, where it is known that the others follow it so
abbrev pub IsFirst : List Value → Option ℤ → Type 0
IsFirst dict None = ⊤
IsFirst dict (Some first) = AreFrom dict first

-- these numbers are the first and the last value
pub record StandAtEnds (dict : List Value) (low high : ℤ) : Type 0 where
  pub some : 0 < length dict
  pub first : get_or dict 0 Null ≡ Int low
  pub last : get_or dict (length dict - 1) Null ≡ Int high
