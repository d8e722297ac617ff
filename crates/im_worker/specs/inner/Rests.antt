-- What is left of a line of the background that is played over a side of a store.
use Rattle.std.specs.Prelude.{◌≡◌, ℕ, false, List}
use Rattle.im_core.specs.declared.answers.Switched.{Switched}
use Rattle.im_core.specs.declared.answers.Switched.TheVariants.{Done, AreaFull, Cancelled}
use Rattle.im_history.specs.declared.entry.What.TheVariants.{Cancel}
use Rattle.im_history.specs.declared.task.Task.{Task}
use Rattle.im_history.specs.History.{History, behind}
use Rattle.im_history.specs.Units.{held_at, killed_of}
use Rattle.im_plan.specs.Goes.{After}
use Rattle.im_plan.specs.Plan.{Plan}
use Rattle.im_reach.specs.Rests.{Counted}
use Rattle.im_reach.specs.Rests as sides
use Rattle.im_reach.specs.Sides.{AreOthers, Known}
use Rattle.im_replies.specs.declared.task.Ending.{Ending}
use Rattle.im_replies.specs.declared.task.Ending.TheVariants as ending
use Rattle.im_statements.specs.Background.{CommandOutcome, command_amends, end_by, ending_by, fits_area}

-- k entries of the line having been made, it goes by this plan to its outcome; these builds were held before it
abbrev pub IsRest : ℕ → ℕ → List Task → Known → Plan CommandOutcome → CommandOutcome → Known → Type 0
IsRest who k builds old plan outcome new = sides.IsRest Counted who (command_amends who builds) k old plan outcome new

-- others alone went on, and a call may have begun no build
abbrev pub Went : Known → Known → Type 0
Went old new = sides.Went Counted old new

-- a build ended whose unit was ready, behind others' entries, and this is what is said of it
pub record IsEnded (who : ℕ) (old : Known) (task : Task) (ending : Ending) (new : Known) : Type 0 where
  pub at : History
  pub after : After (AreOthers old.side) old.log at
  pub now : new ≡ record old { log = behind at who (end_by task.id (killed_of (held_at at task.id)) (fits_area old.limits at task)) }
  pub told : ending ≡ ending_by old.limits who at task (killed_of (held_at at task.id)) (fits_area old.limits at task)

-- what is said of a build of this number, whose unit counts for so many bytes, after a switch
abbrev pub told_by : {U : Type 0} → ℕ → ℕ → Switched U → Ending
told_by id bytes (Done place sum old) = ending.Switch id bytes sum
told_by id bytes (AreaFull place need free) = ending.Full id need free
told_by id bytes (Cancelled place killed) = ending.Cancelled id killed

-- a build ended without its unit, behind others' entries
pub record Cancels (who : ℕ) (task : Task) (old new : Known) : Type 0 where
  pub at : History
  pub after : After (AreOthers old.side) old.log at
  pub now : new ≡ record old { log = behind at who (Cancel task.id false) }
