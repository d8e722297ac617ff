use Rattle.std.proofs.Common.{◌≡◌, ◌∙◌, ℕ, true, false, ap, length, sym, subst}
use Rattle.im_history.specs.Cursors.{is_cursor_open}
use Rattle.im_history.specs.declared.entry.What.TheVariants.{Open}
use Rattle.im_history.specs.declared.view.View.{View}
use Rattle.im_history.specs.Views.{view_at}
use Rattle.im_plan.specs.Plan.{End}
use Rattle.im_replies.specs.declared.body.Body.TheVariants.{Opened}
use Rattle.im_replies.specs.declared.reply.Reply.{Reply}
use Rattle.im_replies.specs.declared.aim.Aim.TheVariants as aim
use Rattle.im_replies.specs.Causes.{fault_of}
use Rattle.im_session.specs.declared.cursor.Cursor.{Cursor}
use Rattle.im_session.specs.Cursors.{query_of}
use Rattle.im_session.specs.inner.Rests.{IsRest}
use Rattle.im_session.proofs.OpeningLemmas.{added-fresh, unopened-rest}
use Rattle.im_session.proofs.RestLemmas.{decide-done}
use Rattle.im_session.proofs.cursor.open_query.Goals as goal
use Rattle.im_statements.specs.Cursors.{open_query}
use Rattle.im_statements.specs.Outcomes.{Opens, Replied}
use Rattle.im_statements.specs.Scans.{opening_refusal}
use Rattle.im_statements.specs.Statements.{seen_columns}
use Rattle.im_statements.specs.Turns.{settled_reply}

pub returns-in-Ok-clause-rest : goal.returns-in-Ok-clause-rest
returns-in-Ok-clause-rest g c =
    let number = c.args.number in
    let bound = c.args.bound in
    let who = c.args.context.now.who in
    let columns = seen_columns (g.H.Reach.known c.args.reach.now).log c.args.bound.table in
    subst (λ (k : Cursor). IsRest who 0 (g.H.Reach.known c.args.reach.now) (open_query who number columns bound)
    (Replied c.settled.result (Opens (query_of k))) (g.H.Reach.known c.open_cursor.new.reach)) (sym c.in-Ok.ensures.opened.is)
    (decide-done who 0 (g.H.Reach.known c.args.reach.now) (g.H.Reach.known c.open_cursor.new.reach) (fault_of (aim.Opening bound.table number))
    (λ at. opening_refusal at who number bound.table columns bound.asked) (λ at. Open number bound.table bound.asked) _
    (λ at. End (Replied (settled_reply (length at) (Opened number (view_at at who bound.table bound.asked).scn (view_at at who bound.table bound.asked).extents))
    (Opens (record { cursor = number; bound = bound; view = view_at at who bound.table bound.asked; next = 0 })))) _
    c.in-Ok.ensures.opened.added (λ at fact. fact.0)
    (λ at fact.
    ap (λ (v : View). End (Replied (settled_reply v.place (Opened number v.scn v.extents))
    (Opens (record { cursor = number; bound = bound; view = v; next = 0 })))) (sym fact.1)
    ∙ ap (λ (reply : Reply). End (Replied reply (Opens (record { cursor = number; bound = bound; view = c.in-Ok.cursor.view; next = 0 }))))
    (sym c.settled.ensures)))

pub returns-in-Ok-clause-fresh : goal.returns-in-Ok-clause-fresh
returns-in-Ok-clause-fresh g c = λ x is.
    let same : c.in-Ok.cursor ≡ x = cc in
    let number : c.in-Ok.cursor.number ≡ c.args.number = ap (λ (k : Cursor). k.number) c.in-Ok.ensures.opened.is in
    subst (λ (k : Cursor). is_cursor_open (g.H.Reach.known c.args.reach.now).log c.args.context.now.who k.number ≡ false) same
    (ap (λ (n : ℕ). is_cursor_open (g.H.Reach.known c.args.reach.now).log c.args.context.now.who n) number
    ∙ added-fresh c.args.context.now.who c.args.number c.args.bound.table (seen_columns (g.H.Reach.known c.args.reach.now).log c.args.bound.table) c.args.bound.asked
    (g.H.Reach.known c.args.reach.now) (g.H.Reach.known c.open_cursor.new.reach) _
    c.in-Ok.ensures.opened.added c.requires.speaks)

pub returns-in-Err-clause-rest : goal.returns-in-Err-clause-rest
returns-in-Err-clause-rest g c =
    let number = c.args.number in
    let bound = c.args.bound in
    let who = c.args.context.now.who in
    let columns = seen_columns (g.H.Reach.known c.args.reach.now).log c.args.bound.table in
    rw c.refused_reply.ensures
    (unopened-rest who 0 number bound.table columns bound.asked (g.H.Reach.known c.args.reach.now) (g.H.Reach.known c.open_cursor.new.reach) true (fault_of (aim.Opening bound.table number))
    (λ at. End (Replied (settled_reply (length at) (Opened number (view_at at who bound.table bound.asked).scn (view_at at who bound.table bound.asked).extents))
    (Opens (record { cursor = number; bound = bound; view = view_at at who bound.table bound.asked; next = 0 }))))
    c.in-Err.refused c.requires.speaks c.requires.shut c.in-Err.ensures.err)
