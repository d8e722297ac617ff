-- No line makes a session leave.
use Rattle.std.specs.Prelude.{◌≡◌, ℕ, Bool, true, List}
use Rattle.im_history.specs.declared.limits.Limits.{Limits}
use Rattle.im_history.specs.declared.task.Task.{Task}
use Rattle.im_history.specs.History.{History}
use Rattle.im_history.specs.Leaves.{has_left}
use Rattle.im_plan.specs.Goes.{Goes, PlayedLine, Others}
use Rattle.im_statements.specs.Background as background
use Rattle.im_statements.specs.Background.{command_amends, command_plan, drop_all}
use Rattle.im_statements.specs.Outcomes.{Outcome, State}
use Rattle.im_statements.specs.Statements.{statement_plan}
use Rattle.im_statements.specs.Turns.{amends}
use Rattle.im_syntax.specs.declared.statement.Stmt.{Stmt}

-- whatever others do meanwhile, and out of memory or not: of the numbers that are not others', those have left after the line of a
-- session that had left before it
abbrev pub NobodyLeaves : Type 0
NobodyLeaves =
    (mine : ℕ → Bool) (limits : Limits) (who number : ℕ) (state : State) (statement : Stmt) (old : History) (outcome : Outcome) (new : History)
    → mine number ≡ true
    → PlayedLine (Others mine) who (amends who) old (statement_plan limits who state statement) outcome new
    → has_left new number ≡ has_left old number

-- and so after a line of the background
abbrev pub NobodyLeavesBehind : Type 0
NobodyLeavesBehind =
    (mine : ℕ → Bool) (limits : Limits) (who number rounds : ℕ) (builds : List Task) (statement : Stmt) (old : History)
    (outcome : background.CommandOutcome) (new : History)
    → mine number ≡ true
    → PlayedLine (Others mine) who (command_amends who builds) old (command_plan limits who rounds builds statement) outcome new
    → has_left new number ≡ has_left old number

-- and so once the builds that are held are dropped
abbrev pub NobodyLeavesDropped : Type 0
NobodyLeavesDropped =
    (mine : ℕ → Bool) (who number : ℕ) (builds : List Task) (old new : History)
    → mine number ≡ true
    → Goes (Others mine) who old (drop_all builds) tt new
    → has_left new number ≡ has_left old number
