-- The lines of a script, played one after the other with nobody else there: the reference machine.
use Rattle.std.specs.Prelude.{◌≡◌, ℕ, zero, suc, ◌+◌, ◌≤◌, List, [], ◌∷◌, Option, Some, None, slice_index_or, slice_set}
use Rattle.im_history.specs.declared.task.Task.{Task}
use Rattle.im_history.specs.History.{History}
use Rattle.im_plan.specs.Alone.{IsMachine, play}
use Rattle.im_play.specs.Requests.{BACKGROUND, Command, Request, LineDemand, Nothing, Told, Asks, Orders}
use Rattle.im_replies.specs.declared.reply.Reply.{Reply}
use Rattle.im_session.specs.Reads.{IsCounted, reading_of}
use Rattle.im_statements.specs.Background.{Answered, drop_all}
use Rattle.im_statements.specs.Outcomes.{Effect, Replied, State, fresh, kept_after}
use Rattle.im_values.specs.declared.limits.TheConstants.{SESSIONS}
use Rattle.im_worker.specs.Reads as builds

-- ---- the machine

-- the machine: what happened so far, what each session keeps, by its number, and the builds that the background holds
pub record Machine : Type 0 where
  pub history : History
  pub states : List State
  pub builds : List Task

-- so many sessions that keep nothing
abbrev pub unused : ℕ → List State
unused zero = []
unused (suc left) = fresh ∷ unused left

-- nothing has happened, no session keeps anything, and no build is held
abbrev pub idle : Machine
idle = record { history = []; states = unused (SESSIONS + 1); builds = [] }

-- what a session keeps
abbrev pub state_in : Machine → ℕ → State
state_in machine who = slice_index_or machine.states who fresh

-- the machine once the builds that are held are ended without their units
abbrev pub without_builds : Machine → Machine
without_builds machine =
    record machine { history = (play BACKGROUND machine.history (drop_all machine.builds)).history; builds = [] }

-- ---- one line

-- a statement of a session is played to this reply: it runs out of memory before the entry that decides it, or never. The steps grow by
-- the rows at most that the marks of the reply tell of, which are the stale rows of the units and the rows of the extents without one
-- that it was served
pub record IsAnswer (before after : ℕ) (request : Request) (old : Machine) (reply : Reply) (new : Machine) : Type 0 where
  pub effect : Effect
  pub line : IsMachine request.who request.amends old.history (request.plan (state_in old request.who)) (Replied reply effect) new.history
  pub states : new.states ≡ slice_set old.states request.who (kept_after effect (state_in old request.who))
  pub builds_are : new.builds ≡ old.builds
  pub counted : IsCounted (reading_of request.statement) (state_in old request.who) request.who reply before after old.history new.history

-- a statement of the background is played so, in so many rounds where it goes by them. The steps grow with each build by the rows at most
-- that were read for it, which are those that were stale beside a unit or all of its extent
pub record IsCommandAnswer (before after : ℕ) (command : Command) (old : Machine) (reply : Reply) (new : Machine) : Type 0 where
  pub rounds : ℕ
  pub line :
      IsMachine BACKGROUND (command.amends old.builds) old.history (command.plan rounds old.builds) (Answered reply new.builds) new.history
  pub states_are : new.states ≡ old.states
  pub counted : builds.IsCounted BACKGROUND before after old.history new.history

-- nothing happens, and the steps do not grow
pub record IsStill (before after : ℕ) (old new : Machine) : Type 0 where
  pub machine : new ≡ old
  pub steps : after ≡ before

-- where nothing is asked for there is no reply, and the machine stays; it stays too where a line has its one reply
abbrev pub IsAnswered : ℕ → ℕ → LineDemand → Machine → Option Reply → Machine → Type 0
IsAnswered before after Nothing old None new = IsStill before after old new
IsAnswered before after Nothing old (Some reply) new = ⊥
IsAnswered before after (Told number told) old None new = ⊥
IsAnswered before after (Told number told) old (Some reply) new = (reply ≡ told) × IsStill before after old new
IsAnswered before after (Asks request) old None new = ⊥
IsAnswered before after (Asks request) old (Some reply) new = IsAnswer before after request old reply new
IsAnswered before after (Orders command) old None new = ⊥
IsAnswered before after (Orders command) old (Some reply) new = IsCommandAnswer before after command old reply new

-- ---- the lines of a script

-- the number of the line that asks for this, where it asks for anything
abbrev pub number_of : LineDemand → ℕ
number_of Nothing = 0
number_of (Told number reply) = number
number_of (Asks request) = request.number
number_of (Orders command) = command.number

-- the reply of a line, where it has one, before those of others
abbrev pub put : ℕ → Option Reply → List (ℕ × Reply) → List (ℕ × Reply)
put number None answers = answers
put number (Some reply) answers = (number, reply) ∷ answers

-- what lines ask for comes, one after the other, to these replies and this machine, and the steps grew by the rows that were read at most
abbrev pub Comes : Machine → List LineDemand → List (ℕ × Reply) → Machine → ℕ → ℕ → Type 0
Comes machine [] answers end before after = (answers ≡ []) × (end ≡ machine) × (after ≤ before)
Comes machine (demand ∷ demands) answers end before after =
    (reply : Option Reply) × (rest : List (ℕ × Reply)) × (next : Machine) × (between : ℕ)
    × IsAnswered before between demand machine reply next × (answers ≡ put (number_of demand) reply rest) × Comes next demands rest end between after
