-- A worker's job: builds that it began and ended among the entries of others, and what it answers.
use Rattle.std.specs.Prelude.{◌≡◌, ℕ, ◌+◌, ◌*◌, ◌<◌, ◌≤◌, ◌==◌, ◌&&◌, ◌⊎◌, Bool, true, false, All, List, [], ◌∷◌, ◌++◌, count_by, fold, length, take, Option, Some, None, ⊤}
use Rattle.std.specs.List.{list_any}
use Rattle.im_history.specs.declared.entry.What.{What}
use Rattle.im_history.specs.declared.entry.What.TheVariants.{Build, Cancel}
use Rattle.im_history.specs.declared.limits.Limits.{Limits}
use Rattle.im_history.specs.declared.task.Choice.{Choice}
use Rattle.im_history.specs.declared.task.Task.{Task}
use Rattle.im_history.specs.History.{History, behind}
use Rattle.im_history.specs.Kinds.{scope_of}
use Rattle.im_history.specs.Leaves.{leaves}
use Rattle.im_history.specs.Queue.{build_of, next, task_of}
use Rattle.im_history.specs.Units.{held_at, killed_of}
use Rattle.im_plan.specs.Goes.{After, Others}
use Rattle.im_reach.specs.Sides.{Known, speaks}
use Rattle.im_statements.specs.Background.{end_by, fits_area}
use Rattle.im_worker.specs.Background.{builds_of}
use Rattle.im_worker.specs.declared.work.Ended.{Ended}
use Rattle.im_worker.specs.declared.work.Ended.TheVariants as ended

-- ---- what the history says of a worker

-- a build that began and ended: the history that it began behind, which it was, whether its unit was made, and the history that it
-- ended behind
pub record Piece : Type 0 where
  pub began : History
  pub choice : Choice
  pub ready : Bool
  pub finished : History

-- the build
abbrev pub task_in : Piece → Task
task_in piece = task_of piece.began piece.choice

-- the entry that ends a build: where its unit was made that of SWITCH, else a Cancel
abbrev pub end_of : Limits → History → Task → Bool → What
end_of limits at task true = end_by task.id (killed_of (held_at at task.id)) (fits_area limits at task)
end_of limits at task false = Cancel task.id false

-- a round of a worker: a build began and ended; none came next, at this history; or memory was out before one began, at this history
pub data Round : Type 0 where
  Built : Piece → Round
  Idled : History → Round
  Lacked : History → Round

-- a worker went on so, round by round: its entries are the beginnings and the ends of these builds, and all other entries are those
-- of others
abbrev pub Worked : (History → Type 0) → Limits → ℕ → List Round → History → History → Type 0
Worked others limits who [] old new = After others old new
Worked others limits who (Built piece ∷ rounds) old new =
    After others old piece.began × (next piece.began ≡ Some piece.choice)
    × After others (behind piece.began who (build_of piece.began piece.choice)) piece.finished
    × Worked others limits who rounds (behind piece.finished who (end_of limits piece.finished (task_in piece) piece.ready)) new
Worked others limits who (Idled at ∷ rounds) old new = After others old at × (next at ≡ None) × Worked others limits who rounds at new
Worked others limits who (Lacked at ∷ rounds) old new = After others old at × Worked others limits who rounds at new

-- ---- what the rounds come to

-- how many turns were made, which are calls of the store; how many builds began; how many turns began none, and in how many of these
-- memory was out; and the last place at which none came next
pub record Total : Type 0 where
  pub turns : ℕ
  pub builds : ℕ
  pub misses : ℕ
  pub lacks : ℕ
  pub idle : Option ℕ

abbrev pub with_round : Total → Round → Total
with_round total (Built piece) = record total { turns = total.turns + 3; builds = total.builds + 1 }
with_round total (Idled at) = record total { turns = total.turns + 1; misses = total.misses + 1; idle = Some (length at) }
with_round total (Lacked at) = record total { turns = total.turns + 1; misses = total.misses + 1; lacks = total.lacks + 1 }

unfoldable pub total_of : List Round → Total
total_of rounds = fold with_round (record { turns = 0; builds = 0; misses = 0; lacks = 0; idle = None }) rounds

-- none came next, and so many sessions had left
abbrev pub is_over : ℕ → Round → Bool
is_over sessions (Built piece) = false
is_over sessions (Idled at) = leaves at == sessions
is_over sessions (Lacked at) = false

-- the job ended where its turns were made and it was over in no round; or where it was over in the last one, for which a turn was left
abbrev pub IsEndOfRounds : ℕ → ℕ → List Round → Ended → Type 0
IsEndOfRounds turns sessions rounds (ended.Spent lacks idle) =
    (list_any (is_over sessions) rounds ≡ false) × (turns ≤ (total_of rounds).turns) × (lacks ≡ (total_of rounds).lacks) × (idle ≡ (total_of rounds).idle)
IsEndOfRounds turns sessions rounds (ended.Over place) =
    (earlier : List Round) × (at : History) × (rounds ≡ earlier ++ Idled at ∷ []) × (list_any (is_over sessions) earlier ≡ false)
    × ((total_of earlier).turns < turns) × (leaves at ≡ sessions) × (place ≡ length at)

-- a count of 64 bits rose by so many, or stands at its greatest number
pub record IsRise (count before after : ℕ) : Type 0 where
  pub few : after ≤ before + count
  pub all : (after ≡ before + count) ⊎ (after ≡ 18446744073709551615)

-- a worker did its job, whatever others did meanwhile
pub record HasWorked (who turns sessions : ℕ) (old : Known) (ended : Ended) (new : Known) : Type 0 where
  pub rounds : List Round
  pub known : new ≡ record old { log = new.log; misses = new.misses }
  pub worked : Worked (Others (speaks old.side)) old.limits who rounds old.log new.log
  pub misses : IsRise (total_of rounds).misses old.misses new.misses
  pub few : (total_of rounds).turns ≤ turns + 2
  pub told : IsEndOfRounds turns sessions rounds ended

-- ---- the same, by the history alone

-- the entry begins a build
abbrev pub is_build : What → Bool
is_build (Build id table extent trickle) = true
is_build what = false

-- how many builds a number began
unfoldable pub builds_begun : History → ℕ → ℕ
builds_begun history who = count_by (λ entry. (entry.who == who) && is_build entry.what) history

-- at this place, between these histories, no build came next and the number held none
pub record IsIdleAt (who place : ℕ) (old new : History) : Type 0 where
  pub since : length old ≤ place
  pub within : place ≤ length new
  pub none : next (take place new) ≡ None
  pub unheld : builds_of (take place new) who ≡ []

-- and so many sessions had left there
pub record IsOverAt (who sessions place : ℕ) (old new : History) : Type 0 where
  pub idle : IsIdleAt who place old new
  pub left : leaves (take place new) ≡ sessions

-- all turns were made: so many builds began, with three turns each, and in so many turns none began
pub record AreTurnsMade (who turns lacks : ℕ) (idle : Option ℕ) (old new : Known) : Type 0 where
  pub builds : ℕ
  pub misses : ℕ
  pub begun : builds_begun new.log who ≡ builds_begun old.log who + builds
  pub rise : IsRise misses old.misses new.misses
  pub lacked : lacks ≤ misses
  pub least : turns ≤ 3 * builds + misses
  pub most : 3 * builds + misses ≤ turns + 2
  pub busy : idle ≡ None → turns ≤ 3 * builds + lacks

-- what is said of a job that is over at a place, and of one whose turns were made
abbrev pub IfOver : Ended → (ℕ → Type 0) → Type 0
IfOver (ended.Spent lacks idle) says = ⊤
IfOver (ended.Over place) says = says place

abbrev pub IfSpent : Ended → (ℕ → Option ℕ → Type 0) → Type 0
IfSpent (ended.Spent lacks idle) says = says lacks idle
IfSpent (ended.Over place) says = ⊤

-- ---- what follows for the whole history

-- the entry begins a build or ends one
abbrev pub is_building : What → Bool
is_building what = (scope_of what).builds

-- the history went on, by entries of others and by beginnings and ends of builds of this number
pub record AddsBuilds (mine : ℕ → Bool) (who : ℕ) (old new : History) : Type 0 where
  pub between : History
  pub log : new ≡ old ++ between
  pub own : All (λ entry. (mine entry.who ≡ false) ⊎ ((entry.who ≡ who) × (is_building entry.what ≡ true))) between

-- all that others may have added has other numbers
abbrev pub Apart : ℕ → History → History → Type 0
Apart who old new = After (Others (λ number. number == who)) old new
