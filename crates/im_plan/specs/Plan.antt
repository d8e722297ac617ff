-- A line of a script as a plan of turns.
use Rattle.std.specs.Prelude.{ℕ, suc, Bool, List, [], ◌∷◌, Option, Some, None}
use Rattle.im_history.specs.declared.entry.Entry.{Entry}
use Rattle.im_history.specs.declared.entry.What.{What}
use Rattle.im_history.specs.History.{History}

-- what a line does: turns, then its result. A turn reads the history at its own place, adds at most one entry there, and
-- says how the line goes on. Where a turn decides and adds its entry, the line can no longer be undone for being out of
-- memory.
pub data Plan (R : Type 0) : Type 0 where
  End : R → Plan R
  Turn : (decides : Bool) → (adds : History → Option What) → (on : History → Plan R) → Plan R

-- the entries that a turn of this number adds
abbrev pub made : ℕ → Option What → List Entry
made who None = []
made who (Some what) = record { who = who; what = what } ∷ []

-- a number of entries with those that a turn adds
abbrev pub counted : Option What → ℕ → ℕ
counted None n = n
counted (Some what) n = suc n
