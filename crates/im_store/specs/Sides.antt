-- What contracts see of a store that threads share, and of a side of it.
use Rattle.std.specs.Prelude.{ℕ, List, [], ◌∷◌, false, Some}
use Rattle.im_history.specs.declared.entry.Entry.{Entry}
use Rattle.im_history.specs.declared.limits.Limits.{Limits}
use Rattle.im_reach.specs.Sides.{Frame, Known, StoreSide}
use Rattle.im_turn.specs.Passes.{PassState}

-- the number under which an entry was made
abbrev pub who_of : Entry → ℕ
who_of entry = entry.who

-- the limits of a store, which stay fixed while it is handed round
abbrev pub fixed_of : Limits → List ℕ
fixed_of limits = limits.area ∷ limits.store ∷ limits.changes ∷ []

-- the limits that stay fixed so
abbrev pub limits_of : List ℕ → Limits
limits_of (area ∷ store ∷ changes ∷ rest) = record { area = area; store = store; changes = changes }
limits_of (area ∷ store ∷ []) = record { area = area; store = store; changes = 0 }
limits_of (area ∷ []) = record { area = area; store = 0; changes = 0 }
limits_of [] = record { area = 0; store = 0; changes = 0 }

-- what stays of a pass while its side calls
abbrev pub frame_of : PassState Entry → Frame
frame_of pass = record { turn = pass.turn; base = pass.base; olds = pass.olds; gave = pass.gave; fixed = pass.fixed }

-- the side of a pass: it speaks for its number alone, and others may have the store too
abbrev pub side_of : PassState Entry → StoreSide
side_of pass = record { alone = false; number = Some pass.who; frame = Some (frame_of pass) }

-- what is known by a pass, so many of whose calls missed
abbrev pub known_by : PassState Entry → ℕ → Known
known_by pass misses = record { side = side_of pass; limits = limits_of pass.fixed; log = pass.seen; misses = misses }

-- a side of a store that threads share: its pass, and how many of its calls missed
pub record SharedState : Type 0 where
  pub pass : PassState Entry
  pub misses : ℕ
