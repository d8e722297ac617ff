-- Statements that define tables, and those that begin and end transactions.
use Rattle.std.specs.Prelude.{ℕ, ◌+◌, List, length, Option, Some, None, if◌then◌else◌}
use Rattle.im_values.specs.declared.priority.Priority.{Priority}
use Rattle.im_values.specs.declared.content.Content.{Content as Value}
use Rattle.im_values.specs.declared.schema.Column.{Column}
use Rattle.im_history.specs.declared.entry.Mode.{Mode}
use Rattle.im_history.specs.declared.entry.What.TheVariants as what
use Rattle.im_history.specs.Commits.{scn}
use Rattle.im_history.specs.Grid.{Grid}
use Rattle.im_history.specs.History.{History}
use Rattle.im_history.specs.Refusals.{add_refusal, begin_refusal, create_refusal}
use Rattle.im_history.specs.Tables.{tables}
use Rattle.im_history.specs.Transactions.{is_open}
use Rattle.im_plan.specs.Plan.{Plan}
use Rattle.im_replies.specs.declared.body.Body.TheVariants.{Created, Altered, Begun, Committed, RolledBack}
use Rattle.im_replies.specs.declared.aim.Aim.TheVariants as aim
use Rattle.im_replies.specs.Causes.{fault_of}
use Rattle.im_statements.specs.Outcomes.{Outcome}
use Rattle.im_statements.specs.Turns.{answer_at, attempt, decide, decide_by}

-- ---- tables

-- what CREATE TABLE answers, by the history at its entry
abbrev pub created : History → Plan Outcome
created at = answer_at at (Created (length (tables at) + 1) (scn at + 1))

-- a table that was created joins the column store, which decides the line
abbrev pub join_memory : History → Priority → Plan Outcome
join_memory at priority = decide_by (λ here. what.Memory (length (tables at) + 1) (Some priority)) (λ here. created at)

-- CREATE TABLE, once no transaction is open
abbrev pub create_table : List ℕ → List Column → Grid → Option Priority → Plan Outcome
create_table name schema grid None =
    decide (fault_of (aim.Creating name)) (λ at. create_refusal at name) (λ at. what.Create name schema grid) created
create_table name schema grid (Some priority) =
    attempt (fault_of (aim.Creating name)) (λ at. create_refusal at name) (λ at. what.Create name schema grid) (λ at. join_memory at priority)

-- ALTER TABLE ADD, once no transaction is open
abbrev pub add_column : ℕ → Column → Value → Plan Outcome
add_column table column default =
    decide (fault_of (aim.Adding column.name)) (λ at. add_refusal at table column.name) (λ at. what.Add table column default)
    (λ at. answer_at at (Altered table))

-- ALTER TABLE with a priority or NO INMEMORY, once no transaction is open
abbrev pub alter_table : ℕ → Option Priority → Plan Outcome
alter_table table priority = decide_by (λ at. what.Memory table priority) (λ at. answer_at at (Altered table))

-- ---- transactions

-- SET TRANSACTION
abbrev pub set_mode : ℕ → Mode → Plan Outcome
set_mode who mode = decide (fault_of aim.Plain) (λ at. begin_refusal at who) (λ at. what.Begin mode) (λ at. answer_at at (Begun (scn at)))

-- COMMIT
abbrev pub commit : Plan Outcome
commit = decide_by (λ at. what.Commit) (λ at. answer_at at (Committed (scn at + 1)))

-- ROLLBACK adds an entry where a transaction was open at the look
abbrev pub roll_back : ℕ → History → Plan Outcome
roll_back who at =
    if is_open at who then decide_by (λ here. what.Rollback) (λ here. answer_at here RolledBack) else answer_at at RolledBack
