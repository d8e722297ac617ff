use Rattle.std.proofs.Common.{ap, subst}
use Rattle.im_history.specs.declared.limits.Limits.{Limits}
use Rattle.im_reach.specs.Sides.{Known}
use Rattle.im_session.specs.inner.Rests.{IsRest}
use Rattle.im_session.proofs.OtherLemmas.{idle-found}
use Rattle.im_session.proofs.RestLemmas.{rest-lacks, rest-look}
use Rattle.im_session.proofs.ScanLemmas.{own-went, speaks-went, went-found, went-log}
use Rattle.im_session.proofs.statement.define_later.Goals as goal
use Rattle.im_statements.specs.Outcomes.{said}
use Rattle.im_statements.specs.Statements.{looked_up, named_plan}

pub define_named-reply-requires-clause-speaks : goal.define_named-reply-requires-clause-speaks
define_named-reply-requires-clause-speaks g c =
    speaks-went c.args.context.now.who (g.H.Reach.known c.args.reach.now) (g.H.Reach.known c.look.new.self)
    (went-found (g.H.Reach.known c.args.reach.now) (g.H.Reach.known c.look.new.self) _ c.in-Ok.ensures.ok) c.requires.speaks

pub define_named-reply-requires-clause-shut : goal.define_named-reply-requires-clause-shut
define_named-reply-requires-clause-shut g c =
    own-went c.args.context.now.who (g.H.Reach.known c.args.reach.now) (g.H.Reach.known c.look.new.self) c.requires.speaks
    (went-found (g.H.Reach.known c.args.reach.now) (g.H.Reach.known c.look.new.self) _ c.in-Ok.ensures.ok) c.requires.shut

pub define_named-reply-requires-clause-idle : goal.define_named-reply-requires-clause-idle
define_named-reply-requires-clause-idle g c =
    idle-found c.args.context.now.who (g.H.Reach.known c.args.reach.now) (g.H.Reach.known c.look.new.self) _
    c.requires.speaks c.in-Ok.ensures.ok c.requires.idle

pub define_named-reply-requires-clause-look : goal.define_named-reply-requires-clause-look
define_named-reply-requires-clause-look g c = went-log (g.H.Reach.known c.args.reach.now) (g.H.Reach.known c.look.new.self) _ c.in-Ok.ensures.ok

pub returns-in-Ok : goal.returns-in-Ok
returns-in-Ok g c = λ state.
    rest-look c.args.context.now.who 1 (g.H.Reach.known c.args.reach.now) (g.H.Reach.known c.look.new.self) _ _
    (named_plan (g.H.Reach.known c.args.reach.now).limits c.args.context.now.who state c.args.statement.now) _ c.in-Ok.ensures.ok
    (subst (λ (l : Limits).
    IsRest c.args.context.now.who 1 (g.H.Reach.known c.look.new.self)
    (named_plan l c.args.context.now.who state c.args.statement.now (g.H.Reach.known c.look.new.self).log) (said c.define_named-reply.result)
    (g.H.Reach.known c.define_named-reply.new.reach))
    (ap (λ (s : Known). s.limits) c.in-Ok.ensures.ok.now) (c.define_named-reply.ensures state))

pub returns-in-Err : goal.returns-in-Err
returns-in-Err g c = λ state.
    rw c.out_of_memory.ensures
    (rest-lacks c.args.context.now.who 1 (g.H.Reach.known c.args.reach.now) (g.H.Reach.known c.look.new.self) _
    (looked_up (g.H.Reach.known c.args.reach.now).limits c.args.context.now.who state c.args.statement.now) c.requires.speaks c.requires.shut
    c.in-Err.ensures.err)
