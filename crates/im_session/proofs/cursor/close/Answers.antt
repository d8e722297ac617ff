use Rattle.std.proofs.Common.{length, refl}
use Rattle.im_history.specs.declared.entry.What.TheVariants.{Shut}
use Rattle.im_plan.specs.Plan.{End}
use Rattle.im_replies.specs.declared.body.Body.TheVariants.{Closed}
use Rattle.im_session.proofs.RestLemmas.{decide_by-done}
use Rattle.im_session.proofs.cursor.close.Goals as goal
use Rattle.im_statements.specs.Outcomes.{Closes, Replied}
use Rattle.im_statements.specs.Turns.{settled_reply}

pub returns : goal.returns
returns g c =
    decide_by-done c.args.context.now.who 0 (g.H.Reach.known c.args.reach.now) _ (λ here. Shut c.args.kept.now.number) _ (λ here.
    End (Replied (settled_reply (length here) (Closed c.args.kept.now.number)) (Closes c.args.kept.now.number))) _ c.shut-place.ensures.added
    (λ at fact. rw (c.settled.ensures, fact) refl)
