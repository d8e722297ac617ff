-- What writing a whole text does.
use Rattle.std.specs.Prelude.{◌≡◌, ℕ, ◌<◌, List, length, take, Option}
use Rattle.std.specs.Io.KnownBytes.{append_known}

-- the text came behind what was taken before
abbrev pub Took : Option (List ℕ) → Option (List ℕ) → List ℕ → Type 0
Took before after text = after ≡ append_known before text

-- a prefix of the text, and not all of it, came behind what was taken before
pub record TookPart (before after : Option (List ℕ)) (text : List ℕ) : Type 0 where
  pub count : ℕ
  pub short : count < length text
  pub took : Took before after (take count text)
