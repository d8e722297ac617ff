use Rattle.std.proofs.Common.{length, true, refl}
use Rattle.im_history.specs.declared.entry.What.TheVariants as what
use Rattle.im_history.specs.Refusals.{altered, insert_refusal}
use Rattle.im_history.specs.Tables.{given}
use Rattle.im_replies.specs.declared.body.Body.TheVariants.{Inserted}
use Rattle.im_replies.specs.declared.aim.Aim.TheVariants as aim
use Rattle.im_replies.specs.Causes.{fault_of}
use Rattle.im_session.proofs.RestLemmas.{decide-done, rest-refused}
use Rattle.im_session.proofs.TableLemmas.{both-none}
use Rattle.im_session.proofs.inserts.insert.Goals as goal
use Rattle.im_statements.specs.Turns.{answer_at}
use Rattle.im_statements.specs.Writes.{inserting_refusal, inserts}

pub returns-in-Ok : goal.returns-in-Ok
returns-in-Ok g c =
    let limits = (g.H.Reach.known c.args.reach.now).limits in
    let who = c.args.context.now.who in
    let table = c.args.opening.table in
    let columns = c.args.opening.columns in
    let rows = c.args.rows in
    rw (← c.requires.seen)
    (decide-done who 0 (g.H.Reach.known c.args.reach.now) _ (fault_of (aim.Inserting table))
    (λ at. inserting_refusal limits at who table columns rows) (λ at. what.Write (inserts table rows at)) _
    (λ at. answer_at at (Inserted (length rows) (given at table))) _ c.in-Ok.ensures.ok
    (λ at fact. both-none (altered at table columns) (insert_refusal limits at who (inserts table rows at)) fact.0 fact.1)
    (λ at fact. rw (c.settled.ensures, fact.2, c.len-count.ensures) refl))

pub returns-in-Err : goal.returns-in-Err
returns-in-Err g c =
    let limits = (g.H.Reach.known c.args.reach.now).limits in
    let who = c.args.context.now.who in
    let table = c.args.opening.table in
    let columns = c.args.opening.columns in
    let rows = c.args.rows in
    rw (c.refused_reply.ensures, ← c.requires.seen)
    (rest-refused who 0 (g.H.Reach.known c.args.reach.now) _ true (fault_of (aim.Inserting table))
    (λ at. inserting_refusal limits at who table columns rows) (λ at. what.Write (inserts table rows at))
    (λ at. answer_at at (Inserted (length rows) (given at table))) c.in-Err.refused c.requires.speaks c.requires.shut c.in-Err.ensures.err)
