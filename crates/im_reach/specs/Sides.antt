-- One side of a store that several may share: whom it speaks for, and how it sees the history go on.
use Rattle.std.specs.Prelude.{◌≡◌, ℕ, ◌+◌, ◌-◌, ◌<◌, ◌≤◌, ◌==◌, Bool, true, false, List, [], ◌∷◌, ◌++◌, length, All, Option, Some, None, if◌then◌else◌}
use Rattle.im_core.specs.declared.answers.Offer.{Offer}
use Rattle.im_core.specs.declared.answers.Offer.TheVariants.{Task, Idle}
use Rattle.im_core.specs.declared.answers.Sent.{Sent}
use Rattle.im_core.specs.declared.answers.Sent.TheVariants as sent
use Rattle.im_core.specs.declared.answers.Switched.{Switched}
use Rattle.im_core.specs.declared.answers.Switched.TheVariants.{Done, AreaFull, Cancelled}
use Rattle.im_core.specs.Answers.{content_in, killed_of, task_bytes}
use Rattle.im_history.specs.declared.entry.Entry.{Entry}
use Rattle.im_history.specs.declared.entry.What.{What}
use Rattle.im_history.specs.declared.entry.What.TheVariants.{Switch, Cancel}
use Rattle.im_history.specs.declared.limits.Limits.{Limits}
use Rattle.im_history.specs.declared.task.Choice.{Choice}
use Rattle.im_history.specs.declared.task.Task.{Task as TaskInfo}
use Rattle.im_history.specs.Area.{used}
use Rattle.im_history.specs.Commits.{member_at, scn, writes_of}
use Rattle.im_history.specs.History.{History, behind}
use Rattle.im_history.specs.Leaves.{leaves}
use Rattle.im_history.specs.Queue.{build_of, next, task_of}
use Rattle.im_history.specs.Units.{Content, held_at, unit_content}
use Rattle.im_plan.specs.Altered.{GotColumn as Got}
use Rattle.im_plan.specs.Goes.{After}
use Rattle.im_turn.specs.Turns.{TurnId}

-- what stays of a pass while its side calls: the turn that it is of, how long the history was when the turn was made, the passes
-- that were joined into it with their entries, the numbers that it gave, and what is fixed in the value of the turn
pub record Frame : Type 0 where
  pub turn : TurnId
  pub base : ℕ
  pub olds : List (ℕ × History)
  pub gave : List ℕ
  pub fixed : List ℕ

-- a side of a store, which no call changes: whether nobody else has the store; the number that it speaks for, if it is not every
-- number; and the frame of its pass, if it has one
pub record StoreSide : Type 0 where
  pub alone : Bool
  pub number : Option ℕ
  pub frame : Option Frame

-- the side of a store that nobody else has
abbrev pub sole : StoreSide
sole = record { alone = true; number = None; frame = None }

-- a side that speaks for this number, or for each
abbrev pub is_number : Option ℕ → ℕ → Bool
is_number None who = true
is_number (Some number) who = number == who

-- the side speaks for this number
abbrev pub speaks : StoreSide → ℕ → Bool
speaks side who = is_number side.number who

-- others may have added these entries: none where nobody else has the store, and none of a number that this side speaks for
pub record AreOthers (side : StoreSide) (between : History) : Type 0 where
  pub alone : side.alone ≡ true → between ≡ []
  pub apart : All (λ entry. speaks side entry.who ≡ false) between

-- what a side knows: the limits of the store, its history as it last saw it, and how many calls of this side
-- missed: they began no build, or found no commit of the number that was asked for
pub record Known : Type 0 where
  pub side : StoreSide
  pub limits : Limits
  pub log : History
  pub misses : ℕ

-- one miss more. The count stays at the greatest number of 64 bits
abbrev pub missed : ℕ → ℕ
missed misses = if misses == 18446744073709551615 then misses else misses + 1

-- a call added no entry: others may have gone on before it, and this was found of the history at that moment
pub record Found (old new : Known) (holds : History → Type 0) : Type 0 where
  pub at : History
  pub after : After (AreOthers old.side) old.log at
  pub now : new ≡ record old { log = at }
  pub fact : holds at

-- a call added one entry: others may have gone on before it, and this was found of the history that it came behind
pub record Added (old new : Known) (who : ℕ) (adds : History → What) (holds : History → Type 0) : Type 0 where
  pub at : History
  pub after : After (AreOthers old.side) old.log at
  pub now : new ≡ record old { log = at ++ record { who = who; what = adds at } ∷ [] }
  pub fact : holds at

-- a table got its last column at this place, by an entry that others added behind what was known
abbrev pub GotColumn : StoreSide → History → History → ℕ → ℕ → Type 0
GotColumn side known at table place = Got (speaks side) (length known) table place at

-- a call missed: others may have gone on before it, and this was found of the history at that moment
pub record Missed (old new : Known) (holds : History → Type 0) : Type 0 where
  pub at : History
  pub after : After (AreOthers old.side) old.log at
  pub now : new ≡ record old { log = at; misses = missed old.misses }
  pub fact : holds at

-- the build that comes next began, or there was none
abbrev pub Offered : Known → Known → ℕ → Offer → Type 0
Offered old new who (Task task) =
    (choice : Choice) × Added old new who (λ at. build_of at choice) (λ at. (next at ≡ Some choice) × (task ≡ task_of at choice))
Offered old new who (Idle place left) = Missed old new (λ at. (next at ≡ None) × (place ≡ length at) × (left ≡ leaves at))

-- commit n is handed out, or it is not there yet, which is a miss. Its steps are at most one more than its writes
abbrev pub Sends : Known → Known → ℕ → ℕ → ℕ → Sent → Type 0
Sends old new n before steps (sent.Member member) =
    Found old new (λ at. (member_at at n ≡ Some member) × (steps ≤ before + 1 + writes_of at n))
Sends old new n before steps (sent.None left) =
    Missed old new (λ at. (scn at < n) × (left ≡ leaves at) × (steps ≤ before + 1 + writes_of at n))

module _ {U : Type 0} (content : U → Content) where
  -- a finished build became current, and the unit that was current is handed back; or its unit did not fit into the area; or the
  -- build was found dead
  abbrev pub IsSwitched : Known → Known → ℕ → TaskInfo → Switched U → Type 0
  IsSwitched old new who task (Done place sum before) =
      Added old new who (λ at. Switch task.id) (λ at.
      (killed_of (held_at at task.id) ≡ None)
      × (used at + task_bytes at task ≤ old.limits.area)
      × (place ≡ length at)
      × (sum ≡ used (behind at who (Switch task.id)))
      × (content_in content before ≡ unit_content at task.table task.extent))
  IsSwitched old new who task (AreaFull place need free) =
      Added old new who (λ at. Cancel task.id true) (λ at.
      (killed_of (held_at at task.id) ≡ None)
      × (old.limits.area < used at + task_bytes at task)
      × (place ≡ length at)
      × (need ≡ task_bytes at task)
      × (free ≡ old.limits.area - used at))
  IsSwitched old new who task (Cancelled place killed) =
      Added old new who (λ at. Cancel task.id false) (λ at.
      (killed_of (held_at at task.id) ≡ Some killed) × (place ≡ length at))
