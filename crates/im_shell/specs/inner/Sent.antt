-- Text of which the sink took the front, and the rest waits.
use Rattle.std.specs.Prelude.{◌≡◌, ℕ, List, ◌++◌, Option}
use Rattle.im_edge.specs.Writing.{Took}

-- the sink took a prefix of this text; what is left waits to be written
pub record Sends (before after : Option (List ℕ)) (text left : List ℕ) : Type 0 where
  pub sent : List ℕ
  pub took : Took before after sent
  pub split : text ≡ sent ++ left

-- the sink took a prefix of this text
pub record SendsPart (before after : Option (List ℕ)) (text : List ℕ) : Type 0 where
  pub left : List ℕ
  pub sends : Sends before after text left
