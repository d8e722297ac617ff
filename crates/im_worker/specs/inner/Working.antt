-- A worker's job on its way.
use Rattle.std.specs.Prelude.{◌≡◌, ℕ, ◌+◌, ◌-◌, ◌≤◌, false, List, [], ◌∷◌, length, Option, Some, None, IfSome, ⊤}
use Rattle.std.specs.List.{list_any}
use Rattle.im_history.specs.History.{History}
use Rattle.im_history.specs.Leaves.{leaves}
use Rattle.im_plan.specs.Goes.{Others}
use Rattle.im_reach.specs.Rests.{Counted}
use Rattle.im_reach.specs.Sides.{Known, missed, speaks}
use Rattle.im_worker.specs.declared.work.Ended.{Ended}
use Rattle.im_worker.specs.declared.work.Progress.{Progress}
use Rattle.im_worker.specs.Background.{Ready}
use Rattle.im_worker.specs.Work.{Built, HasWorked, Idled, IfOver, IfSpent, IsIdleAt, IsOverAt, IsRise, AreTurnsMade, Lacked, Round, Worked, builds_begun, is_over, total_of}
use Rattle.im_worker.specs.inner.Standing.{Stands}

-- the tally behind a round
abbrev pub noted : Round → Progress → Progress
noted (Built piece) tally = record tally { left = tally.left - 3 }
noted (Idled at) tally = record tally { left = tally.left - 1; idle = Some (length at) }
noted (Lacked at) tally = record tally { left = tally.left - 1; lacks = tally.lacks + 1 }

-- the count of misses behind it
abbrev pub misses_by : Round → ℕ → ℕ
misses_by (Built piece) misses = misses
misses_by (Idled at) misses = missed misses
misses_by (Lacked at) misses = missed misses

-- how many builds it began
abbrev pub builds_in : Round → ℕ
builds_in (Built piece) = 1
builds_in (Idled at) = 0
builds_in (Lacked at) = 0

-- where no build came next in a round, the history went on to there
abbrev pub IsLastAt : Round → History → Type 0
IsLastAt (Built piece) log = ⊤
IsLastAt (Idled at) log = at ≡ log
IsLastAt (Lacked at) log = ⊤

-- a round was made
pub record IsRound (who : ℕ) (builds : List Ready) (round : Round) (old new : Known) : Type 0 where
  pub kept : Counted old new
  pub worked : Worked (Others (speaks old.side)) old.limits who (round ∷ []) old.log new.log
  pub misses : new.misses ≡ misses_by round old.misses
  pub begun : builds_begun new.log who ≡ builds_begun old.log who + builds_in round
  pub last : IsLastAt round new.log
  pub stands : Stands who builds [] new.log

-- a round behind which the job goes on
pub record IsNoted (who sessions : ℕ) (builds : List Ready) (before after : Progress) (old new : Known) : Type 0 where
  pub round : Round
  pub is_round : IsRound who builds round old new
  pub noted_so : after ≡ noted round before
  pub not_over : is_over sessions round ≡ false

-- a round with which it is over, at this place
pub record IsOver (who sessions : ℕ) (builds : List Ready) (place : ℕ) (old new : Known) : Type 0 where
  pub is_round : IsRound who builds (Idled new.log) old new
  pub left : leaves new.log ≡ sessions
  pub place_is : place ≡ length new.log

abbrev pub IsAround : ℕ → ℕ → List Ready → Progress → Progress → Known → Option ℕ → Known → Type 0
IsAround who sessions builds before after old (Some place) new = IsOver who sessions builds place old new
IsAround who sessions builds before after old None new = IsNoted who sessions builds before after old new

-- the rounds so far, and the tally of them
pub record IsWorking (who turns sessions : ℕ) (builds : List Ready) (old : Known) (tally : Progress) (now : Known) : Type 0 where
  pub rounds : List Round
  pub kept : Counted old now
  pub worked : Worked (Others (speaks old.side)) old.limits who rounds old.log now.log
  pub misses : IsRise (total_of rounds).misses old.misses now.misses
  pub begun : builds_begun now.log who ≡ builds_begun old.log who + (total_of rounds).builds
  pub idle_at : IfSome tally.idle (λ place. builds ≡ [] → IsIdleAt who place old.log now.log)
  pub left : tally.left ≡ turns - (total_of rounds).turns
  pub few : (total_of rounds).turns ≤ turns + 2
  pub lacks : tally.lacks ≡ (total_of rounds).lacks
  pub room : tally.lacks + tally.left ≤ turns
  pub idle : tally.idle ≡ (total_of rounds).idle
  pub not_over : list_any (is_over sessions) rounds ≡ false
  pub stands : Stands who builds [] now.log

-- the job is done
pub record HasEnded (who turns sessions : ℕ) (builds : List Ready) (old : Known) (ended : Ended) (new : Known) : Type 0 where
  pub worked : HasWorked who turns sessions old ended new
  pub over : builds ≡ [] → IfOver ended (λ place. IsOverAt who sessions place old.log new.log)
  pub spent : IfSpent ended (λ lacks idle. AreTurnsMade who turns lacks idle old new)
  pub idle : builds ≡ [] → IfSpent ended (λ lacks idle. IfSome idle (λ place. IsIdleAt who place old.log new.log))
  pub stands : Stands who builds [] new.log
