-- What is left of a line that is played over a side of a store, for the proofs of the functions that play it.
use Rattle.std.specs.Prelude.{ℕ}
use Rattle.im_plan.specs.Plan.{Plan}
use Rattle.im_reach.specs.Rests.{Logged}
use Rattle.im_reach.specs.Rests as sides
use Rattle.im_reach.specs.Sides.{Known}
use Rattle.im_statements.specs.Outcomes.{Outcome}
use Rattle.im_statements.specs.Turns.{amends}

-- k entries of the line having been made, it goes by this plan to its outcome, and nothing is known anew but the history
abbrev pub IsRest : ℕ → ℕ → Known → Plan Outcome → Outcome → Known → Type 0
IsRest who k old plan outcome new = sides.IsRest Logged who (amends who) k old plan outcome new

-- the same where the line's deciding entry was made: it does not run out of memory any more
abbrev pub IsDecided : ℕ → Known → Plan Outcome → Outcome → Known → Type 0
IsDecided who old plan outcome new = sides.IsDecided Logged who old plan outcome new
