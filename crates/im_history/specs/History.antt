-- A history, and how it is read.
use Rattle.std.specs.Prelude.{◌≡◌, ℕ, List, [], ◌∷◌, ◌++◌}
use Rattle.im_history.specs.declared.entry.Entry.{Entry}
use Rattle.im_history.specs.declared.entry.What.{What}

-- what happened to the store, the oldest entry first
abbrev pub History : Type 0
History = List Entry

-- the new history is the old one with one more entry
abbrev pub Adds : History → ℕ → What → History → Type 0
Adds old who what new = new ≡ old ++ record { who = who; what = what } ∷ []

-- a history with one more entry
abbrev pub behind : History → ℕ → What → History
behind old who what = old ++ record { who = who; what = what } ∷ []

-- the history read on from where `before` stood already
abbrev pub replay_from : {S : Type 0} → (History → S → Entry → S) → History → S → History → S
replay_from step before state [] = state
replay_from step before state (entry ∷ rest) = replay_from step (before ++ entry ∷ []) (step before state entry) rest

-- what a history comes to, read from its oldest entry on: each step knows the entries before it
unfoldable pub replay : {S : Type 0} → (History → S → Entry → S) → S → History → S
replay step start history = replay_from step [] start history
