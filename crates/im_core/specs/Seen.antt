-- What can be seen of a store: the limits by which it answers, and all that happened to it.
use Rattle.std.specs.Prelude.{◌≡◌, ℕ, ◌++◌, [], ◌∷◌}
use Rattle.im_history.specs.declared.entry.What.{What}
use Rattle.im_history.specs.declared.limits.Limits.{Limits}
use Rattle.im_history.specs.History.{History}

pub record Seen : Type 0 where
  pub limits : Limits
  pub log : History

-- the store went on by one entry
abbrev pub Adds : Seen → ℕ → What → Seen → Type 0
Adds old who what new = new ≡ record old { log = old.log ++ record { who = who; what = what } ∷ [] }
