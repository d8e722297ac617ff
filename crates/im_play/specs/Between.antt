-- How one line is played over a store, its sessions and its background, and what holds between two lines.
use Rattle.std.specs.Prelude.{◌≡◌, ℕ, zero, suc, ◌+◌, ◌≤◌, false, All, List, [], ◌∷◌, length, map, Option, Some, None, ⊤}
use Rattle.im_history.specs.declared.entry.Entry.{Entry}
use Rattle.im_history.specs.History.{History}
use Rattle.im_history.specs.Leaves.{has_left}
use Rattle.im_syntax.specs.declared.statement.Stmt.{Stmt}
use Rattle.im_plan.specs.Goes.{After}
use Rattle.im_reach.specs.Sides.{AreOthers, Known, StoreSide, sole}
use Rattle.im_script.specs.declared.line.Line.{Line}
use Rattle.im_session.specs.Sessions.{Agrees, Kept, state_of}
use Rattle.im_replies.specs.declared.reply.Reply.{Reply}
use Rattle.im_play.specs.Machine.{IsAnswered, Machine}
use Rattle.im_play.specs.Requests.{BACKGROUND, Command, Request, demand_of, script_limits}
use Rattle.im_statements.specs.Background.{command_amends, command_plan}
use Rattle.im_statements.specs.Statements.{statement_plan}
use Rattle.im_statements.specs.Turns.{amends}
use Rattle.im_values.specs.declared.limits.TheConstants.{SESSIONS}
use Rattle.im_worker.specs.Background as background
use Rattle.im_worker.specs.Background.{tasks_of}

-- ---- between two lines

-- sessions of rising numbers, from one on. Each but that of the number 0, which is the background's, agrees with what is known
abbrev pub AreSessions : ℕ → List Kept → Known → Type 0
AreSessions who [] now = ⊤
AreSessions who (session ∷ sessions) now = (session.who ≡ who) × (1 ≤ who → Agrees session now) × AreSessions (suc who) sessions now

-- the side of the background, beside which the sessions are others
abbrev pub background_side : StoreSide
background_side = record { alone = false; number = Some BACKGROUND; frame = None }

-- the background agreed with what was known when its last line ended, and since then only sessions went on
pub record IsHolding (kept : background.Kept) (now : Known) : Type 0 where
  pub who : kept.who ≡ BACKGROUND
  pub at : History
  pub agrees : background.Agrees kept (record now { log = at })
  pub after : After (AreOthers background_side) at now.log

-- nobody has left, and each entry is that of a session or of the background
pub record AreThere (log : History) : Type 0 where
  pub stay : (who : ℕ) → has_left log who ≡ false
  pub numbered : All (λ (entry : Entry). entry.who ≤ SESSIONS) log

-- the store that a script is played over, its sessions and its background, between two lines
pub record IsBetween (now : Known) (sessions : List Kept) (kept : background.Kept) : Type 0 where
  pub side : now.side ≡ sole
  pub limits : now.limits ≡ script_limits now.limits.area
  pub count : length sessions ≡ SESSIONS + 1
  pub agree : AreSessions 0 sessions now
  pub holding : IsHolding kept now
  pub there : AreThere now.log

-- the machine that they are
abbrev pub machine_of : Known → List Kept → background.Kept → Machine
machine_of now sessions kept = record {
  history = now.log;
  states = map (λ session. state_of session.cursors) sessions;
  builds = tasks_of kept.builds;
}

-- a session that keeps nothing
abbrev pub unused_session : ℕ → Kept
unused_session who = record { who = who; cursors = []; in_transaction = false }

-- so many sessions of rising numbers, from one on, that keep nothing
abbrev pub unused_from : ℕ → ℕ → List Kept
unused_from who zero = []
unused_from who (suc left) = unused_session who ∷ unused_from (suc who) left

-- a background that holds no build
abbrev pub unused_background : background.Kept
unused_background = record { who = BACKGROUND; builds = [] }

-- what is known of the store in which nothing has happened, and which nobody else has
abbrev pub nothing_in : ℕ → Known
nothing_in area = record { side = sole; limits = script_limits area; log = []; misses = 0 }

-- ---- a line

-- what the line of a session's statement asks for
abbrev pub request_of : ℕ → ℕ → ℕ → Stmt → Request
request_of area number who statement = record {
  number = number;
  who = who;
  statement = statement;
  plan = λ state. statement_plan (script_limits area) who state statement;
  amends = amends who;
}

-- what the line of a statement of the background asks for
abbrev pub command_of : ℕ → ℕ → Stmt → Command
command_of area number statement = record {
  number = number;
  plan = λ rounds builds. command_plan (script_limits area) BACKGROUND rounds builds statement;
  amends = command_amends BACKGROUND;
}

-- a line was played to its reply, where it has one
pub record Answers (area before after : ℕ) (line : Line) (old : Machine) (reply : Option Reply) (new : Machine) : Type 0 where
  pub answered : IsAnswered before after (demand_of area line) old reply new
