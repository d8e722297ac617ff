-- The plan of each statement of a session: what it reads, adds and answers, turn by turn.
use Rattle.std.specs.Prelude.{ℕ, Bool, true, false, Some, Result, Ok, Err, if◌then◌else◌}
use Rattle.im_history.specs.declared.entry.What.TheVariants as what
use Rattle.im_history.specs.declared.limits.Limits.{Limits}
use Rattle.im_history.specs.History.{History}
use Rattle.im_history.specs.Tables.{table_at, tables}
use Rattle.im_history.specs.Transactions.{is_open}
use Rattle.im_history.specs.Units.{columns_of}
use Rattle.im_names.specs.declared.fault.NameFault.{NameFault}
use Rattle.im_names.specs.declared.fault.NameFault.TheVariants as names
use Rattle.im_names.specs.declared.resolved.Resolved.{Resolved}
use Rattle.im_names.specs.declared.resolved.Resolved.TheVariants as resolved
use Rattle.im_names.specs.Statements.{resolution}
use Rattle.im_plan.specs.Plan.{Plan, Turn}
use Rattle.im_syntax.specs.declared.statement.Stmt.{Stmt}
use Rattle.im_syntax.specs.declared.statement.Stmt.TheVariants as stmt
use Rattle.im_replies.specs.declared.body.Body.TheVariants.{Error, Nothing}
use Rattle.im_replies.specs.declared.reply.Reply.{Reply}
use Rattle.im_replies.specs.Causes.{name_fault}
use Rattle.im_statements.specs.Cursors.{close, fetch, open_query, step}
use Rattle.im_statements.specs.Definitions.{add_column, alter_table, commit, create_table, roll_back, set_mode}
use Rattle.im_statements.specs.Outcomes.{Outcome, State}
use Rattle.im_statements.specs.Scans.{explain, select}
use Rattle.im_statements.specs.Turns.{answer_at, look, memory_reply, settled_reply}
use Rattle.im_statements.specs.declared.rewriting.Rewriting.TheVariants.{Updating, Deleting}
use Rattle.im_statements.specs.Writes.{insert, rewrite, unless_read_only}

-- ---- names

-- the reply to a line that has this fault of its names, at this place, once it had made k entries
abbrev pub name_reply : ℕ → ℕ → NameFault → Reply
name_reply k place names.NoMemory = memory_reply k
name_reply k place fault = settled_reply place (Error (name_fault fault))

-- how many columns a table has at the look
abbrev pub seen_columns : History → ℕ → ℕ
seen_columns at table = columns_of (table_at at table)

-- a statement whose names were found at this history. Those of the background are not a session's, and nothing is done
abbrev pub resolved_plan : Limits → ℕ → State → History → Resolved → Plan Outcome
resolved_plan limits who state at (resolved.Select bound) = select who (seen_columns at bound.table) bound
resolved_plan limits who state at (resolved.Explain bound) = explain who (seen_columns at bound.table) bound
resolved_plan limits who state at (resolved.Create name schema grid memory) = create_table name schema grid memory
resolved_plan limits who state at (resolved.Memory table priority) = alter_table table priority
resolved_plan limits who state at (resolved.AddColumn table column default) = add_column table column default
resolved_plan limits who state at (resolved.Insert table rows) = insert limits who table (seen_columns at table) rows
resolved_plan limits who state at (resolved.Update table filter sets) =
    unless_read_only who at (rewrite limits who table (seen_columns at table) filter (Updating sets))
resolved_plan limits who state at (resolved.Delete table filter) =
    unless_read_only who at (rewrite limits who table (seen_columns at table) filter Deleting)
resolved_plan limits who state at (resolved.SetMode mode) = set_mode who mode
resolved_plan limits who state at resolved.Commit = commit
resolved_plan limits who state at resolved.Rollback = roll_back who at
resolved_plan limits who state at (resolved.OpenFor cursor bound) = open_query who cursor (seen_columns at bound.table) bound
resolved_plan limits who state at (resolved.Step cursor) = step state at cursor
resolved_plan limits who state at (resolved.Fetch cursor) = fetch state at cursor
resolved_plan limits who state at (resolved.Close cursor) = close state at cursor
resolved_plan limits who state at resolved.Run = answer_at at Nothing
resolved_plan limits who state at resolved.Begin = answer_at at Nothing
resolved_plan limits who state at resolved.Switch = answer_at at Nothing
resolved_plan limits who state at resolved.Cancel = answer_at at Nothing
resolved_plan limits who state at (resolved.Trickle credits) = answer_at at Nothing
resolved_plan limits who state at (resolved.Evict table extent) = answer_at at Nothing
resolved_plan limits who state at resolved.Purge = answer_at at Nothing

-- the names of a statement were looked up at this history: what it does, or their fault
abbrev pub found_plan : Limits → ℕ → State → History → Result Resolved NameFault → Plan Outcome
found_plan limits who state at (Ok resolved) = resolved_plan limits who state at resolved
found_plan limits who state at (Err fault) = answer_at at (Error (name_fault fault))

-- a statement whose names are looked up at this history
abbrev pub named_plan : Limits → ℕ → State → Stmt → History → Plan Outcome
named_plan limits who state statement at = found_plan limits who state at (resolution (tables at) statement)

-- a statement whose names are looked up when its turn comes
abbrev pub looked_up : Limits → ℕ → State → Stmt → Plan Outcome
looked_up limits who state statement = look (named_plan limits who state statement)

-- a definition first commits an open transaction, whether or not it is then refused; its names are looked up behind that
abbrev pub definition_plan : Limits → ℕ → State → Stmt → Plan Outcome
definition_plan limits who state statement = look (λ at.
    if is_open at who
    then Turn false (λ here. Some what.Commit) (λ here. looked_up limits who state statement)
    else named_plan limits who state statement at)

-- the statement defines a table, or changes what one is
abbrev pub is_definition : Stmt → Bool
is_definition (stmt.Create name columns block extent memory) = true
is_definition (stmt.AlterMemory name memory) = true
is_definition (stmt.AlterNoMemory name) = true
is_definition (stmt.AddColumn name column default) = true
is_definition statement = false

-- the plan of a statement of a session that keeps this
abbrev pub statement_plan : Limits → ℕ → State → Stmt → Plan Outcome
statement_plan limits who state statement =
    if is_definition statement then definition_plan limits who state statement else looked_up limits who state statement
