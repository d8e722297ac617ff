-- Whether a transaction of a session is open after a line, by the reply alone.
use Rattle.std.specs.Prelude.{◌≡◌, ℕ, ◌==◌, ◌&&◌, ◌||◌, nat_lt, Bool, true, false, if◌then◌else◌}
use Rattle.im_history.specs.declared.limits.Limits.{Limits}
use Rattle.im_history.specs.History.{History}
use Rattle.im_history.specs.Transactions.{is_open}
use Rattle.im_plan.specs.Goes.{PlayedLine, Others}
use Rattle.im_replies.specs.declared.body.Body.{Body}
use Rattle.im_replies.specs.declared.body.Body.TheVariants as body
use Rattle.im_replies.specs.declared.fault.Fault.TheVariants as fault
use Rattle.im_replies.specs.declared.reply.Reply.{Reply}
use Rattle.im_syntax.specs.declared.statement.Stmt.{Stmt}
use Rattle.im_statements.specs.Outcomes.{Effect, Replied, State}
use Rattle.im_statements.specs.Statements.{is_definition, statement_plan}
use Rattle.im_statements.specs.Turns.{amends}

-- whether a transaction is open after a line that said this, and that was no definition; `before` is whether one was open before it
abbrev pub open_by : Body → Bool → Bool
open_by (body.Begun scn) before = true
open_by (body.Committed scn) before = false
open_by body.RolledBack before = false
open_by (body.Inserted rows first) before = true
open_by (body.Updated rows) before = nat_lt 0 rows || before
open_by (body.Deleted rows) before = nat_lt 0 rows || before
open_by said before = before

-- the same of the line of a definition: it committed what was open, unless memory ran out before that
abbrev pub open_by_definition : Body → Bool → Bool
open_by_definition (body.Error (fault.Memory entries)) before = (entries == 0) && before
open_by_definition said before = false

-- the same of the line of any statement
abbrev pub open_after : Stmt → Reply → Bool → Bool
open_after statement reply before = if is_definition statement then open_by_definition reply.body before else open_by reply.body before

-- whatever others do meanwhile, the reply to a line of a session says whether a transaction is open after it, out of memory or not
abbrev pub KeepTransaction : Type 0
KeepTransaction =
    (mine : ℕ → Bool) (limits : Limits) (who : ℕ) (state : State) (statement : Stmt) (old : History) (reply : Reply) (effect : Effect) (new : History)
    → mine who ≡ true → PlayedLine (Others mine) who (amends who) old (statement_plan limits who state statement) (Replied reply effect) new
    → is_open new who ≡ open_after statement reply (is_open old who)
