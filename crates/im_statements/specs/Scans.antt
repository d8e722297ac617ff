-- Scans: a cursor is opened, the extents of its view are served one after the other, and it is closed.
use Rattle.std.specs.Prelude.{ℕ, zero, suc, ◌+◌, ◌-◌, false, List, [], ◌∷◌, ◌++◌, length, map, Option, Some}
use Rattle.std.specs.Option.{option_or}
use Rattle.im_values.specs.declared.content.Content.{Content as Value}
use Rattle.im_group.specs.Answers.{answer}
use Rattle.im_history.specs.declared.cursors.TheConstants.{OWN_CURSOR}
use Rattle.im_history.specs.declared.entry.What.TheVariants.{Open, Shut}
use Rattle.im_history.specs.declared.refused.Why.{Why}
use Rattle.im_history.specs.declared.view.View.{View}
use Rattle.im_history.specs.History.{History}
use Rattle.im_history.specs.Refusals.{altered, open_refusal}
use Rattle.im_history.specs.Rows.{Row, present}
use Rattle.im_history.specs.Views.{seen_by, view_at}
use Rattle.im_plan.specs.Plan.{Plan, End, Turn}
use Rattle.im_syntax.specs.Condition.{CondOf}
use Rattle.im_syntax.specs.declared.bound.Bound.{Bound}
use Rattle.im_replies.specs.declared.body.Body.TheVariants.{Answer, Plan as Explained}
use Rattle.im_replies.specs.declared.reply.Reply.{Reply}
use Rattle.im_replies.specs.declared.served.How.{How}
use Rattle.im_replies.specs.declared.served.Served.{Served}
use Rattle.im_replies.specs.declared.aim.Aim.TheVariants as aim
use Rattle.im_replies.specs.Causes.{fault_of}
use Rattle.im_replies.specs.Mixes.{mix}
use Rattle.im_statements.specs.Outcomes.{Outcome, said}
use Rattle.im_statements.specs.Turns.{attempt, look, served_reply}

-- the rows that a view sees, each with its number, in order
abbrev pub rows_seen : History → View → List (ℕ × Row)
rows_seen history view = present (seen_by history view) 0 view.rows

-- ---- serving

-- the mark of an extent that a scan is served at this history
abbrev pub mark_at : History → View → Option (CondOf ℕ Value) → ℕ → Served
mark_at at view filter extent = record { place = length at; extent = extent; how = mix at view extent filter }

-- so many extents of a view are served, from this one on, each at a turn of its own. What the line does then knows the marks
abbrev pub serve : View → Option (CondOf ℕ Value) → ℕ → ℕ → List Served → (List Served → Plan Outcome) → Plan Outcome
serve view filter zero extent marks on = on marks
serve view filter (suc left) extent marks on =
    look (λ at. serve view filter left (extent + 1) (marks ++ mark_at at view filter extent ∷ []) on)

-- all that are left of a view are served, from this one on
abbrev pub serve_from : View → Option (CondOf ℕ Value) → ℕ → (List Served → Plan Outcome) → Plan Outcome
serve_from view filter extent on = serve view filter (view.extents - extent) extent [] on

-- ---- a statement's own scan

-- what refuses the opening of a cursor on a table that had so many columns at the look: it got others since, or the cursor may not be opened,
-- or not at the SCN that is asked for
abbrev pub opening_refusal : History → ℕ → ℕ → ℕ → ℕ → Option ℕ → Option Why
opening_refusal at who cursor table columns asked = option_or (altered at table columns) (open_refusal at who cursor asked)

-- a cursor of the statement's own is opened on a table that had so many columns at the look, at the SCN that is asked for or else at the
-- session's snapshot, unless that is refused, and all extents are served. What the line does then knows the history at the opening, the
-- view, and the marks
abbrev pub scan : ℕ → ℕ → ℕ → Option ℕ → Option (CondOf ℕ Value) → (History → View → List Served → Plan Outcome) → Plan Outcome
scan who table columns asked filter on =
    attempt (fault_of (aim.Opening table OWN_CURSOR)) (λ at. opening_refusal at who OWN_CURSOR table columns asked)
    (λ at. Open OWN_CURSOR table asked)
    (λ at. serve_from (view_at at who table asked) filter 0 (on at (view_at at who table asked)))

-- the scan ends, and the line with this reply
abbrev pub end_scan : Reply → Plan Outcome
end_scan reply = Turn false (λ here. Some (Shut OWN_CURSOR)) (λ here. End (said reply))

-- ---- statements that read

-- SELECT of a table that had so many columns at the look: the answer is over the rows that the view sees, and is settled at the opening
abbrev pub select : ℕ → ℕ → Bound → Plan Outcome
select who columns bound = scan who bound.table columns bound.asked bound.filter (λ at view marks.
    end_scan (served_reply (length at) marks (Answer view.scn (answer bound (rows_seen at view)))))

-- what EXPLAIN says of a mark
abbrev pub explained : Served → ℕ × How
explained mark = (mark.extent, mark.how)

-- EXPLAIN: how each extent is served
abbrev pub explain : ℕ → ℕ → Bound → Plan Outcome
explain who columns bound = scan who bound.table columns bound.asked bound.filter (λ at view marks.
    end_scan (served_reply (length at) marks (Explained view.scn (map explained marks))))
