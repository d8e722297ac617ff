use Rattle.std.proofs.Common.{refl}
use Rattle.im_history.specs.declared.entry.What.TheVariants as what
use Rattle.im_replies.specs.declared.body.Body.TheVariants.{Altered}
use Rattle.im_session.proofs.RestLemmas.{decide_by-done, rest-lacks}
use Rattle.im_session.proofs.definition.alter.Goals as goal
use Rattle.im_statements.specs.Definitions.{alter_table}
use Rattle.im_statements.specs.Turns.{answer_at}

pub returns-in-Ok : goal.returns-in-Ok
returns-in-Ok g c =
    decide_by-done c.args.context.now.who c.args.entries (g.H.Reach.known c.args.reach.now) _ (λ at. what.Memory c.args.table c.args.priority) _
    (λ at. answer_at at (Altered c.args.table)) _ c.in-Ok.ensures.ok (λ at fact. rw (c.settled.ensures, fact) refl)

pub returns-in-Err : goal.returns-in-Err
returns-in-Err g c =
    rw c.out_of_memory.ensures
    (rest-lacks c.args.context.now.who c.args.entries (g.H.Reach.known c.args.reach.now) _ _ (alter_table c.args.table c.args.priority) c.requires.speaks
    c.requires.shut c.in-Err.ensures.err)
