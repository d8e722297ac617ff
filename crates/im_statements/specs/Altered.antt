-- What a reply says that refuses a line since the table got a column while the line was played.
use Rattle.std.specs.Prelude.{◌≡◌, ℕ, Bool, true, length, Some}
use Rattle.im_history.specs.declared.limits.Limits.{Limits}
use Rattle.im_history.specs.History.{History}
use Rattle.im_plan.specs.Altered.{GotColumn}
use Rattle.im_plan.specs.Goes.{After, PlayedLine, Others}
use Rattle.im_replies.specs.declared.body.Body.TheVariants.{Error}
use Rattle.im_replies.specs.declared.fault.Fault.TheVariants as fault
use Rattle.im_replies.specs.declared.reply.Reply.{Reply}
use Rattle.im_syntax.specs.declared.statement.Stmt.{Stmt}
use Rattle.im_statements.specs.Outcomes.{Effect, Replied, State}
use Rattle.im_statements.specs.Statements.{statement_plan}
use Rattle.im_statements.specs.Turns.{amends}

-- the reply was settled at a history where a table had got its last column so, and others went on to this one
pub record WasAltered (mine : ℕ → Bool) (known table place : ℕ) (reply : Reply) (new : History) : Type 0 where
  pub at : History
  pub settled : reply.place ≡ Some (length at)
  pub got : GotColumn mine known table place at
  pub after : After (Others mine) at new

-- whatever others do meanwhile, a line of a session that is refused since a table got columns tells of the last of them, and that one was
-- added by another number after the line began
abbrev pub TellColumns : Type 0
TellColumns =
    (mine : ℕ → Bool) (limits : Limits) (who : ℕ) (state : State) (statement : Stmt) (old : History) (reply : Reply) (effect : Effect) (new : History)
    (table place : ℕ)
    → reply.body ≡ Error (fault.TableAltered table place)
    → PlayedLine (Others mine) who (amends who) old (statement_plan limits who state statement) (Replied reply effect) new
    → WasAltered mine (length old) table place reply new

-- so with nobody else there no line is refused for that
abbrev pub TellNoColumns : Type 0
TellNoColumns =
    (mine : ℕ → Bool) (limits : Limits) (who : ℕ) (state : State) (statement : Stmt) (old : History) (reply : Reply) (effect : Effect) (new : History)
    (table place : ℕ)
    → ((number : ℕ) → mine number ≡ true)
    → PlayedLine (Others mine) who (amends who) old (statement_plan limits who state statement) (Replied reply effect) new
    → reply.body ≡ Error (fault.TableAltered table place) → ⊥
