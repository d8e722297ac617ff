-- What comes of beginning the build that comes next and making its unit ready.
use Rattle.std.specs.Prelude.{◌≡◌, ℕ, false, List, [], ◌∷◌, length, Some, None}
use Rattle.im_history.specs.declared.entry.What.TheVariants.{Cancel}
use Rattle.im_history.specs.declared.task.Choice.{Choice}
use Rattle.im_history.specs.declared.task.Held.{Held}
use Rattle.im_history.specs.declared.task.Task.{Task}
use Rattle.im_history.specs.History.{History, behind}
use Rattle.im_history.specs.Leaves.{leaves}
use Rattle.im_history.specs.Legal.{IsLawful}
use Rattle.im_history.specs.Queue.{build_of, next, task_of}
use Rattle.im_history.specs.Units.{held_at, task_content}
use Rattle.im_plan.specs.Goes.{After}
use Rattle.im_reach.specs.Sides.{AreOthers, Known, missed}
use Rattle.im_worker.specs.declared.building.Beginning.{Beginning}
use Rattle.im_worker.specs.declared.building.Beginning.TheVariants as begun
use Rattle.im_worker.specs.Background.{Ready}
use Rattle.im_worker.specs.inner.Rests.{Went}
use Rattle.im_worker.specs.inner.Standing.{Stands}

-- the build that came next began, behind others' entries, and others went on to this history
pub record Began (who : ℕ) (old : Known) (begun : Task) (log : History) : Type 0 where
  pub at : History
  pub choice : Choice
  pub after : After (AreOthers old.side) old.log at
  pub comes : next at ≡ Some choice
  pub is : begun ≡ task_of at choice
  pub later : After (AreOthers old.side) (behind at who (build_of at choice)) log

-- the last entry that is known is the beginning of this build
pub record IsJust (who : ℕ) (begun : Task) (now : Known) : Type 0 where
  pub at : History
  pub choice : Choice
  pub log : now.log ≡ behind at who (build_of at choice)
  pub is : begun ≡ task_of at choice
  pub lawful : IsLawful now.limits now.log

-- its unit is ready
pub record IsReady (who : ℕ) (builds : List Ready) (old : Known) (ready : Ready) (new : Known) : Type 0 where
  pub began : Began who old ready.task new.log
  pub now : new ≡ record old { log = new.log }
  pub stands : Stands who builds (ready.task ∷ []) new.log
  pub content : ready.content ≡ task_content new.log ready.task

-- there was none, at this place, where so many sessions had left
pub record IsIdle (who : ℕ) (builds : List Ready) (place left : ℕ) (old new : Known) : Type 0 where
  pub went : Went old new
  pub misses : new.misses ≡ missed old.misses
  pub none : next new.log ≡ None
  pub place_is : place ≡ length new.log
  pub left_is : left ≡ leaves new.log
  pub stands : Stands who builds [] new.log

-- memory lacked before one began
pub record Lacked (who : ℕ) (builds : List Ready) (old new : Known) : Type 0 where
  pub went : Went old new
  pub misses : new.misses ≡ missed old.misses
  pub stands : Stands who builds [] new.log

-- memory lacked before its unit was ready, and it was cancelled
pub record WasDropped (who : ℕ) (builds : List Ready) (old new : Known) : Type 0 where
  pub task : Task
  pub last : History
  pub began : Began who old task last
  pub now : new ≡ record old { log = behind last who (Cancel task.id false) }
  pub left : Stands who builds (task ∷ []) last
  pub stands : Stands who builds [] new.log

abbrev pub IsBegun : ℕ → List Ready → Known → Beginning → Known → Type 0
IsBegun who builds old (begun.Ready ready) new = IsReady who builds old ready new
IsBegun who builds old (begun.Idle place left) new = IsIdle who builds place left old new
IsBegun who builds old begun.Lacks new = Lacked who builds old new
IsBegun who builds old begun.Dropped new = WasDropped who builds old new

-- a build is held, it is this number's own, and so many row numbers were given when it began
pub record IsGiven (who count : ℕ) (task : Task) (history : History) : Type 0 where
  pub held : Held
  pub is : held_at history task.id ≡ Some held
  pub mine : held.who ≡ who
  pub same : held.task ≡ task
  pub given : held.given ≡ count
