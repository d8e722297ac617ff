-- Statements that write rows.
use Rattle.std.specs.Prelude.{ℕ, true, List, [], ◌∷◌, length, map, filter as list_filter, Option, Some, None, if◌then◌else◌}
use Rattle.std.specs.Option.{option_or}
use Rattle.im_values.specs.declared.content.Content.{Content as Value}
use Rattle.im_group.specs.Partials.{keeps}
use Rattle.im_history.specs.declared.change.Change.{Change}
use Rattle.im_history.specs.declared.entry.What.TheVariants.{Write}
use Rattle.im_history.specs.declared.limits.Limits.{Limits}
use Rattle.im_history.specs.declared.refused.Why.{Why}
use Rattle.im_history.specs.History.{History}
use Rattle.im_history.specs.Legal.{put_from}
use Rattle.im_history.specs.Refusals.{altered, forbids_writing, insert_refusal, write_refusal}
use Rattle.im_history.specs.Rows.{Row}
use Rattle.im_history.specs.Tables.{given}
use Rattle.im_history.specs.Transactions.{mode}
use Rattle.im_plan.specs.Plan.{Plan, Turn}
use Rattle.im_syntax.specs.Condition.{CondOf}
use Rattle.im_replies.specs.declared.body.Body.{Body}
use Rattle.im_replies.specs.declared.body.Body.TheVariants.{Inserted, Updated, Deleted, Error}
use Rattle.im_replies.specs.declared.fault.Fault.TheVariants as fault
use Rattle.im_replies.specs.declared.served.Served.{Served}
use Rattle.im_replies.specs.declared.aim.Aim.TheVariants as aim
use Rattle.im_replies.specs.Causes.{fault_of}
use Rattle.im_statements.specs.declared.rewriting.Rewriting.{Rewriting}
use Rattle.im_statements.specs.declared.rewriting.Rewriting.TheVariants.{Updating, Deleting}
use Rattle.im_statements.specs.Assigned.{assigned}
use Rattle.im_statements.specs.Outcomes.{Outcome}
use Rattle.im_statements.specs.Scans.{end_scan, rows_seen, scan}
use Rattle.im_statements.specs.Turns.{answer_at, decide, served_reply, unless_refused}

-- ---- inserting

-- the changes of an insert of these rows at this history
abbrev pub inserts : ℕ → List Row → History → List Change
inserts table rows at = put_from table (given at table) rows

-- what refuses an insert into a table that had so many columns at the look: it got others since, or these changes may not be made
abbrev pub inserting_refusal : Limits → History → ℕ → ℕ → ℕ → List Row → Option Why
inserting_refusal limits at who table columns rows =
    option_or (altered at table columns) (insert_refusal limits at who (inserts table rows at))

-- INSERT, into a table that had so many columns at the look
abbrev pub insert : Limits → ℕ → ℕ → ℕ → List Row → Plan Outcome
insert limits who table columns rows =
    decide (fault_of (aim.Inserting table)) (λ at. inserting_refusal limits at who table columns rows) (λ at. Write (inserts table rows at))
    (λ at. answer_at at (Inserted (length rows) (given at table)))

-- ---- rewriting

-- what becomes of a row
abbrev pub rewritten : Rewriting → Row → Option Row
rewritten (Updating sets) row = Some (assigned sets row)
rewritten Deleting row = None

-- what is answered once so many rows are written to
abbrev pub written : Rewriting → ℕ → Body
written (Updating sets) rows = Updated rows
written Deleting rows = Deleted rows

-- the rows that a condition keeps
abbrev pub kept_rows : Option (CondOf ℕ Value) → List (ℕ × Row) → List (ℕ × Row)
kept_rows filter rows = list_filter (λ row. keeps filter row.1) rows

-- the changes to these rows of a table
abbrev pub changes_to : ℕ → Rewriting → List (ℕ × Row) → List Change
changes_to table rewriting rows = map (λ row. record { table = table; rid = row.0; row = rewritten rewriting row.1 }) rows

-- the body, unless the write was refused
abbrev pub or_fault : Option Why → Body → Body
or_fault None body = body
or_fault (Some cause) body = Error (fault_of aim.Plain cause)

-- changes are written to rows that were seen at an SCN, unless it is refused; then the scan ends
abbrev pub write_seen : Limits → ℕ → ℕ → List Served → List Change → Body → Plan Outcome
write_seen limits who scn marks changes body =
    Turn true (λ at. unless_refused (write_refusal limits at who scn changes) (Write changes)) (λ at.
    end_scan (served_reply (length at) marks (or_fault (write_refusal limits at who scn changes) body)))

-- changes to what was seen at an SCN are written; where there is none, the answer is settled at the place of the opening
abbrev pub write_or_end : Limits → ℕ → ℕ → ℕ → List Served → List Change → (ℕ → Body) → Plan Outcome
write_or_end limits who place scn marks [] body = end_scan (served_reply place marks (body 0))
write_or_end limits who place scn marks (change ∷ changes) body =
    write_seen limits who scn marks (change ∷ changes) (body (length (change ∷ changes)))

-- UPDATE and DELETE, of a table that had so many columns at the look: those that a condition keeps of the rows that the view sees are
-- rewritten
abbrev pub rewrite : Limits → ℕ → ℕ → ℕ → Option (CondOf ℕ Value) → Rewriting → Plan Outcome
rewrite limits who table columns filter rewriting = scan who table columns None filter (λ at view marks.
    write_or_end limits who (length at) view.scn marks (changes_to table rewriting (kept_rows filter (rows_seen at view))) (written rewriting))

-- a statement that rewrites rows is refused at its look in a READ ONLY transaction, before anything is scanned
abbrev pub unless_read_only : ℕ → History → Plan Outcome → Plan Outcome
unless_read_only who at plan = if forbids_writing (mode at who) then answer_at at (Error fault.ReadOnly) else plan
