-- What the lines of a script ask for.
use Rattle.std.specs.Prelude.{ℕ, List, Option, Some, None, map}
use Rattle.im_history.specs.declared.limits.Limits.{Limits}
use Rattle.im_history.specs.declared.task.Task.{Task}
use Rattle.im_plan.specs.Plan.{Plan}
use Rattle.im_script.specs.declared.line.Line.{Line}
use Rattle.im_script.specs.declared.line.LineKind.{LineKind}
use Rattle.im_script.specs.declared.line.LineKind.TheVariants as line
use Rattle.im_replies.specs.declared.fault.Fault.TheVariants as fault
use Rattle.im_replies.specs.declared.reply.Reply.{Reply}
use Rattle.im_statements.specs.Background as background
use Rattle.im_statements.specs.Background.{command_amends, command_plan}
use Rattle.im_statements.specs.Outcomes.{Outcome, State}
use Rattle.im_statements.specs.Statements.{statement_plan}
use Rattle.im_statements.specs.Turns.{amends, fault_reply, memory_reply}
use Rattle.im_syntax.specs.declared.statement.Stmt.{Stmt}
use Rattle.im_values.specs.declared.limits.TheConstants.{MOST_CHANGES, MOST_WEIGHT}

-- the limits of the store that a script is played over, whose column units may take so many bytes together
abbrev pub script_limits : ℕ → Limits
script_limits area = record { area = area; store = MOST_WEIGHT; changes = MOST_CHANGES }

-- what a statement asks for: the number of its line, the session that plays it, itself, its plan, which knows what that session keeps,
-- and how it is amended where it runs out of memory after so many entries
pub record Request : Type 0 where
  pub number : ℕ
  pub who : ℕ
  pub statement : Stmt
  pub plan : State → Plan Outcome
  pub amends : ℕ → Plan Outcome

-- what a statement of the background asks for: the number of its line, its plan, which knows how many rounds may be played and which
-- builds are held, and how it is amended where it runs out of memory after so many entries
pub record Command : Type 0 where
  pub number : ℕ
  pub plan : ℕ → List Task → Plan background.CommandOutcome
  pub amends : List Task → ℕ → Plan background.CommandOutcome

-- what a line asks for: nothing; one reply, for which no memory is needed; that a session's statement is played; or that a statement
-- of the background is
pub data LineDemand : Type 0 where
  Nothing : LineDemand
  Told : (number : ℕ) → Reply → LineDemand
  Asks : Request → LineDemand
  Orders : Command → LineDemand

-- the number of the background, which is no session's
abbrev pub BACKGROUND : ℕ
BACKGROUND = 0

-- the reply of a line that no player is asked for, where it has one
abbrev pub unasked_reply : LineKind → Option Reply
unasked_reply line.Skip = None
unasked_reply line.Race = None
unasked_reply (line.Long length) = Some (fault_reply (fault.LineTooLong length))
unasked_reply (line.Bad byte) = Some (fault_reply (fault.Syntax byte))
unasked_reply (line.Session who statement) = None
unasked_reply (line.Background statement) = None
unasked_reply line.NoMemory = Some (memory_reply 0)

-- what a line of this kind asks for: blanks, comments and the end of a prelude for nothing; a line that is too long, that is
-- no statement, or for whose reading there was no memory has its one reply; and a statement is played
abbrev pub asked : ℕ → ℕ → LineKind → LineDemand
asked area number line.Skip = Nothing
asked area number line.Race = Nothing
asked area number (line.Long length) = Told number (fault_reply (fault.LineTooLong length))
asked area number (line.Bad byte) = Told number (fault_reply (fault.Syntax byte))
asked area number (line.Session who statement) = Asks (record {
  number = number;
  who = who;
  statement = statement;
  plan = λ state. statement_plan (script_limits area) who state statement;
  amends = amends who;
})
asked area number (line.Background statement) = Orders (record {
  number = number;
  plan = λ rounds builds. command_plan (script_limits area) BACKGROUND rounds builds statement;
  amends = command_amends BACKGROUND;
})
asked area number line.NoMemory = Told number (memory_reply 0)

-- what a line asks for
abbrev pub demand_of : ℕ → Line → LineDemand
demand_of area line = asked area line.number line.kind

-- what lines ask for, in order
abbrev pub demands_of : ℕ → List Line → List LineDemand
demands_of area lines = map (demand_of area) lines
