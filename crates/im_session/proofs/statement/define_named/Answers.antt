use Rattle.std.proofs.Common.{◌∙◌, subst}
use Rattle.im_history.specs.declared.look.Look.{Look}
use Rattle.im_names.specs.Fitting.{Serves}
use Rattle.im_session.proofs.NameLemmas.{defines-resolved, named-fault, named-found}
use Rattle.im_session.proofs.TableLemmas.{defaults-look}
use Rattle.im_session.proofs.statement.define_named.Goals as goal

pub define_resolved-requires-clause-definition : goal.define_resolved-requires-clause-definition
define_resolved-requires-clause-definition g c =
    defines-resolved c.args.look.now.tables c.args.statement.now c.in-Ok.resolved c.in-Ok.ensures.ok ∙ c.requires.definition

pub define_resolved-requires-clause-serves : goal.define_resolved-requires-clause-serves
define_resolved-requires-clause-serves g c =
    let old = g.H.Reach.known c.args.reach.now in
    subst (λ (l : Look). Serves l.tables c.in-Ok.resolved) c.requires.look
    (c.in-Ok.ensures.serves (defaults-look old.limits old.log c.args.context.now.who c.args.look.now c.requires.lawful.legal c.requires.look))

pub returns-in-Ok : goal.returns-in-Ok
returns-in-Ok g c = λ state.
    named-found c.args.context.now.who c.args.entries (g.H.Reach.known c.args.reach.now) _ state c.args.statement.now c.args.look.now c.in-Ok.resolved _
    c.requires.look c.in-Ok.ensures.ok (c.define_resolved.ensures state)

pub returns-in-Err : goal.returns-in-Err
returns-in-Err g c = λ state.
    rw c.name_reply.ensures
    (named-fault c.args.context.now.who c.args.entries (g.H.Reach.known c.args.reach.now) state c.args.statement.now c.args.look.now c.in-Err.fault
    c.requires.speaks c.requires.shut c.requires.look c.in-Err.ensures.err)
