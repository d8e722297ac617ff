use Rattle.std.proofs.Common.{Some, refl}
use Rattle.im_history.specs.declared.entry.What.TheVariants as what
use Rattle.im_plan.specs.Plan.{End}
use Rattle.im_session.specs.inner.Definitions.{created_reply}
use Rattle.im_session.proofs.RestLemmas.{decide_by-done, rest-lacks}
use Rattle.im_session.proofs.definition.join_memory.Goals as goal
use Rattle.im_statements.specs.Outcomes.{said}
use Rattle.im_statements.specs.Turns.{decide_by}

pub returns-in-Ok : goal.returns-in-Ok
returns-in-Ok g c =
    decide_by-done c.args.context.now.who c.args.entries (g.H.Reach.known c.args.reach.now) _ (λ at. what.Memory c.args.made.table (Some c.args.priority)) _
    (λ at. End (said (created_reply c.args.made))) _ c.in-Ok.ensures.ok (λ at fact. rw c.created.ensures refl)

pub returns-in-Err : goal.returns-in-Err
returns-in-Err g c =
    rw c.out_of_memory.ensures
    (rest-lacks c.args.context.now.who c.args.entries (g.H.Reach.known c.args.reach.now) _ _
    (decide_by (λ at. what.Memory c.args.made.table (Some c.args.priority)) (λ at. End (said (created_reply c.args.made)))) c.requires.speaks
    c.requires.shut c.in-Err.ensures.err)
