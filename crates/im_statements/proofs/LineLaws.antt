-- What a whole line of a session keeps, whatever others do meanwhile and wherever memory runs out.
use Rattle.std.proofs.Common.{◌≡◌, ℕ, Bool, true, false, if◌then◌else◌, [], refl}
use Rattle.im_history.specs.declared.limits.Limits.{Limits}
use Rattle.im_history.specs.Cursors.{own_cursors}
use Rattle.im_history.specs.History.{History}
use Rattle.im_history.specs.Leaves.{has_left}
use Rattle.im_history.specs.Transactions.{is_open}
use Rattle.im_plan.specs.Goes.{PlayedLine, Others}
use Rattle.im_syntax.specs.declared.statement.Stmt.{Stmt}
use Rattle.im_syntax.specs.Rules.{IsStmt}
use Rattle.im_statements.specs.Agreement.{KeepAgreement}
use Rattle.im_statements.specs.Outcomes.{Outcome, Replied, State, Stays, said}
use Rattle.im_statements.specs.Statements.{definition_plan, is_definition, looked_up, statement_plan}
use Rattle.im_statements.specs.Transaction.{KeepTransaction, open_by, open_by_definition}
use Rattle.im_statements.specs.Turns.{amends, memory_reply}
use Rattle.im_statements.proofs.LeavingLaws.{line-left}
use Rattle.im_statements.proofs.PlanLaws.{IsTidy, line-agrees, line-tells, shut-each-stays, tidy-stays}
use Rattle.im_statements.proofs.StatementLaws.{kept-definition, kept-statement}

-- each statement closes the cursors that it opens by itself
tidy-statement : (limits : Limits) (who : ℕ) (state : State) (s : Stmt) → IsTidy (IsStmt s) who [] Stays (statement_plan limits who state s)
tidy-statement limits who state s = by (is_definition s) refl
  where
    by : (b : Bool) → is_definition s ≡ b
        → IsTidy (IsStmt s) who [] Stays (if b then definition_plan limits who state s else looked_up limits who state s)
    by true is = (kept-definition (IsStmt s) who true limits state s is).tidy
    by false is = (kept-statement who true limits state s).tidy

pub keep-agreement : KeepAgreement
keep-agreement mine limits who state s old outcome new is_mine is agrees line =
    line-agrees mine who is_mine (IsStmt s) is state old (statement_plan limits who state s) outcome new agrees (tidy-statement limits who state s) line

pub keep-transaction : KeepTransaction
keep-transaction mine limits who state s old reply effect new is_mine = by (is_definition s) refl
  where
    by : (b : Bool) → is_definition s ≡ b
        → PlayedLine (Others mine) who (amends who) old (if b then definition_plan limits who state s else looked_up limits who state s)
        (Replied reply effect) new
        → is_open new who ≡ (if b then open_by_definition reply.body (is_open old who) else open_by reply.body (is_open old who))
    by true is =
        line-tells open_by_definition mine who is_mine (is_open old who) reply effect old _ new refl
        ((kept-definition (IsStmt s) who (is_open old who) limits state s is).told tt)
    by false is =
        line-tells open_by mine who is_mine (is_open old who) reply effect old _ new refl
        ((kept-statement who (is_open old who) limits state s).told tt)

-- of the numbers that are not others', those have left after the line of a session that had left before it
pub nobody-leaves : (mine : ℕ → Bool) (limits : Limits) (who number : ℕ) (state : State) (s : Stmt) (old : History) (outcome : Outcome)
    (new : History) → mine number ≡ true → PlayedLine (Others mine) who (amends who) old (statement_plan limits who state s) outcome new
    → has_left new number ≡ has_left old number
nobody-leaves mine limits who number state s old outcome new is_mine line =
    line-left mine number is_mine who (amends who) old (statement_plan limits who state s) outcome new
    (λ k. shut-each-stays who own_cursors (said (memory_reply k)))
    (tidy-stays (IsStmt s) who [] Stays (statement_plan limits who state s) (tidy-statement limits who state s)) line
