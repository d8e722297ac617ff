use Rattle.std.proofs.Common.{true, refl}
use Rattle.im_history.specs.declared.entry.What.TheVariants as what
use Rattle.im_history.specs.Refusals.{add_refusal}
use Rattle.im_replies.specs.declared.body.Body.TheVariants.{Altered}
use Rattle.im_replies.specs.declared.aim.Aim.TheVariants as aim
use Rattle.im_replies.specs.Causes.{fault_of}
use Rattle.im_session.proofs.RestLemmas.{decide-done, rest-lacks_here, rest-refused}
use Rattle.im_session.proofs.definition.add_column.Goals as goal
use Rattle.im_statements.specs.Definitions.{add_column}
use Rattle.im_statements.specs.Turns.{answer_at}

pub returns-in_default : goal.returns-in_default
returns-in_default g c =
    rw c.out_of_memory.ensures
    (rest-lacks_here c.args.context.now.who c.args.entries (g.H.Reach.known c.args.reach.now) (add_column c.args.table c.args.column c.args.default)
    c.requires.speaks c.requires.shut)

pub returns-in-Ok-add_column : goal.returns-in-Ok-add_column
returns-in-Ok-add_column g c =
    decide-done c.args.context.now.who c.args.entries (g.H.Reach.known c.args.reach.now) _ (fault_of (aim.Adding c.args.column.name))
    (λ at. add_refusal at c.args.table c.args.column.name) (λ at. what.Add c.args.table c.args.column c.args.default) _
    (λ at. answer_at at (Altered c.args.table)) _ c.in-Ok-add_column.ensures.ok (λ at fact. fact.0) (λ at fact. rw (c.settled.ensures, fact.1) refl)

pub returns-in-Err : goal.returns-in-Err
returns-in-Err g c =
    rw (c.refused_reply.ensures, c.in-Ok.ensures)
    (rest-refused c.args.context.now.who c.args.entries (g.H.Reach.known c.args.reach.now) _ true (fault_of (aim.Adding c.args.column.name))
    (λ at. add_refusal at c.args.table c.args.column.name) (λ at. what.Add c.args.table c.args.column c.args.default)
    (λ at. answer_at at (Altered c.args.table)) c.in-Err.refused c.requires.speaks c.requires.shut c.in-Err.ensures.err)
