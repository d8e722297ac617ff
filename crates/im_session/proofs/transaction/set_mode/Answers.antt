use Rattle.std.proofs.Common.{true, refl}
use Rattle.im_history.specs.declared.entry.What.TheVariants as what
use Rattle.im_history.specs.Commits.{scn}
use Rattle.im_history.specs.Refusals.{begin_refusal}
use Rattle.im_replies.specs.declared.body.Body.TheVariants.{Begun}
use Rattle.im_replies.specs.declared.aim.Aim.TheVariants as aim
use Rattle.im_replies.specs.Causes.{fault_of}
use Rattle.im_session.proofs.RestLemmas.{decide-done, rest-refused}
use Rattle.im_session.proofs.transaction.set_mode.Goals as goal
use Rattle.im_statements.specs.Turns.{answer_at}

pub returns-in-Ok : goal.returns-in-Ok
returns-in-Ok g c =
    decide-done c.args.context.now.who 0 (g.H.Reach.known c.args.reach.now) _ (fault_of aim.Plain)
    (λ at. begin_refusal at c.args.context.now.who) (λ at. what.Begin c.args.mode) _
    (λ at. answer_at at (Begun (scn at))) _ c.in-Ok.ensures.ok (λ at fact. fact.0) (λ at fact. rw (c.settled.ensures, fact.1) refl)

pub returns-in-Err : goal.returns-in-Err
returns-in-Err g c =
    rw c.refused_reply.ensures
    (rest-refused c.args.context.now.who 0 (g.H.Reach.known c.args.reach.now) _ true (fault_of aim.Plain)
    (λ at. begin_refusal at c.args.context.now.who) (λ at. what.Begin c.args.mode)
    (λ at. answer_at at (Begun (scn at))) c.in-Err.refused c.requires.speaks c.requires.shut c.in-Err.ensures.err)
