-- Statements over a session's cursors, which stay open between lines.
use Rattle.std.specs.Prelude.{ℕ, nat_lt, List, [], ◌∷◌, length, Option, Some, None, if◌then◌else◌}
use Rattle.im_group.specs.Answers.{answer}
use Rattle.im_history.specs.declared.entry.What.TheVariants.{Open, Shut}
use Rattle.im_history.specs.History.{History}
use Rattle.im_history.specs.Views.{view_at}
use Rattle.im_plan.specs.Plan.{Plan, End}
use Rattle.im_syntax.specs.declared.bound.Bound.{Bound}
use Rattle.im_replies.specs.declared.body.Body.TheVariants.{Opened, Step, End as AtEnd, Closed, Answer, Error}
use Rattle.im_replies.specs.declared.fault.Fault.TheVariants as fault
use Rattle.im_replies.specs.declared.reply.Reply.{Reply}
use Rattle.im_replies.specs.declared.served.Served.{Served}
use Rattle.im_replies.specs.declared.aim.Aim.TheVariants as aim
use Rattle.im_replies.specs.Causes.{fault_of}
use Rattle.im_statements.specs.Outcomes.{Outcome, OpenQuery, State, query_at, Replied, Opens, Steps, Closes}
use Rattle.im_statements.specs.Scans.{mark_at, opening_refusal, rows_seen, serve_from}
use Rattle.im_statements.specs.Turns.{answer_at, decide, decide_by, look, served_reply, settled_reply}

-- OPEN, on a table that had so many columns at the look
abbrev pub open_query : ℕ → ℕ → ℕ → Bound → Plan Outcome
open_query who cursor columns bound =
    decide (fault_of (aim.Opening bound.table cursor)) (λ at. opening_refusal at who cursor bound.table columns bound.asked)
    (λ at. Open cursor bound.table bound.asked) (λ at.
    End (Replied
    (settled_reply (length at) (Opened cursor (view_at at who bound.table bound.asked).scn (view_at at who bound.table bound.asked).extents))
    (Opens (record { cursor = cursor; bound = bound; view = view_at at who bound.table bound.asked; next = 0 }))))

-- ---- open cursors

-- the reply of a STEP that was served an extent
abbrev pub step_reply : Served → Reply
step_reply mark = served_reply mark.place (mark ∷ []) (Step mark.extent mark.how)

-- STEP: the next extent is served, unless none is left
abbrev pub step_query : History → OpenQuery → Plan Outcome
step_query at query =
    if nat_lt query.next query.view.extents
    then look (λ here. End (Replied (step_reply (mark_at here query.view query.bound.filter query.next)) (Steps query.cursor)))
    else answer_at at (AtEnd query.cursor)

-- the cursor is closed, and the line ends with the reply that is settled there
abbrev pub close_with : ℕ → (History → Reply) → Plan Outcome
close_with cursor reply = decide_by (λ here. Shut cursor) (λ here. End (Replied (reply here) (Closes cursor)))

-- the reply of a FETCH at this history, which was served so
abbrev pub fetch_reply : History → OpenQuery → List Served → Reply
fetch_reply at query marks = served_reply (length at) marks (Answer query.view.scn (answer query.bound (rows_seen at query.view)))

-- FETCH: all extents that are left are served, and the cursor is closed. The answer is over the rows that the view sees in all
-- its extents, and is settled at the look
abbrev pub fetch_query : History → OpenQuery → Plan Outcome
fetch_query at query =
    serve_from query.view query.bound.filter query.next (λ marks. close_with query.cursor (λ here. fetch_reply at query marks))

-- CLOSE
abbrev pub close_query : ℕ → Plan Outcome
close_query cursor = close_with cursor (λ here. settled_reply (length here) (Closed cursor))

-- ---- cursors by their numbers

-- what a line does with the query of a cursor, or it is refused where that is not open
abbrev pub with_query : ℕ → History → Option OpenQuery → (OpenQuery → Plan Outcome) → Plan Outcome
with_query cursor at (Some query) on = on query
with_query cursor at None on = answer_at at (Error (fault.CursorUnknown cursor))

-- a line over a cursor, which was looked for at this history
abbrev pub with_cursor : State → History → ℕ → (OpenQuery → Plan Outcome) → Plan Outcome
with_cursor state at cursor on = with_query cursor at (query_at state cursor) on

abbrev pub step : State → History → ℕ → Plan Outcome
step state at cursor = with_cursor state at cursor (step_query at)

abbrev pub fetch : State → History → ℕ → Plan Outcome
fetch state at cursor = with_cursor state at cursor (fetch_query at)

abbrev pub close : State → History → ℕ → Plan Outcome
close state at cursor = with_cursor state at cursor (λ query. close_query query.cursor)
