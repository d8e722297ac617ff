-- Values under numbers, before they have codes.
use Rattle.std.specs.Prelude.{◌≡◌, ℕ, ◌^◌, ◌<◌, ◌≤◌, List, [], ◌∷◌, ◌++◌, ◌⊎◌, All, Contains, length, take, slice_index_or}
use Rattle.im_values.specs.declared.content.Content.{Content as Value}
use Rattle.im_codes.specs.Dictionary.{StandAt}

-- each value that was seen is one of these
abbrev pub AreAmong : List Value → List Value → Type 0
AreAmong values seen = All (Contains values) seen

-- the numbers stand for the values, and no other value was seen
pub record IsNumbering (values seen : List Value) (numbers : List ℕ) : Type 0 where
  pub stand : StandAt values seen numbers
  pub among : AreAmong values seen
  pub few : length seen < 2 ^ 31

-- so many of the values are numbered
pub record IsNumberedTo (values seen : List Value) (numbers : List ℕ) (count : ℕ) : Type 0 where
  pub stand : StandAt (take count values) seen numbers
  pub among : AreAmong values seen
  pub short : length seen ≤ count

-- the number stands for the value, which was seen before or is the last now
pub record Adds (old new : List Value) (value : Value) (n : ℕ) : Type 0 where
  pub inside : n < length new
  pub is : (d : Value) → slice_index_or new n d ≡ value
  pub grows : (new ≡ old) ⊎ (new ≡ old ++ value ∷ [])
