use Rattle.std.proofs.Common.{ap, sym, ◌∙◌}
use Rattle.im_reach.specs.Sides.{speaks}
use Rattle.im_session.specs.Sessions.{Kept}
use Rattle.im_session.specs.Reads.{reading_of}
use Rattle.im_session.proofs.SessionLemmas.{session-agrees, session-counted, session-kept, session-played}
use Rattle.im_session.proofs.session.Session.execute.Goals as goal

pub run-reply-requires-clause-agrees : goal.run-reply-requires-clause-agrees
run-reply-requires-clause-agrees g c κs within =
    session-kept c.args.self.now c.self.inside.who c.self.inside.cursors.items c.self.inside.in_transaction (sym c.self.view_is)
    (g.H.Reach.known c.args.reach.now) c.requires.agrees

pub returns-clause-played : goal.returns-clause-played
returns-clause-played g c =
    session-played c.args.self.now c.self.inside.who c.self.inside.cursors.items c.self.inside.in_transaction (sym c.self.view_is)
    (g.H.Reach.known c.args.reach.now) c.args.statement.now c.run-reply.new.kept.items c.is_open_after-self-inside.result
    (g.H.Reach.known c.run-reply.new.reach) c.run-reply.result c.is_open_after-self-inside.ensures c.run-reply.ensures.run

pub returns-clause-agrees : goal.returns-clause-agrees
returns-clause-agrees g c =
    session-agrees c.args.self.now c.self.inside.who c.self.inside.cursors.items c.self.inside.in_transaction (sym c.self.view_is)
    (g.H.Reach.known c.args.reach.now) c.args.statement.now c.run-reply.new.kept.items c.is_open_after-self-inside.result
    (g.H.Reach.known c.run-reply.new.reach) c.run-reply.result c.is_open_after-self-inside.ensures c.run-reply.ensures.run
    (ap (λ (k : Kept). speaks (g.H.Reach.known c.args.reach.now).side k.who) c.self.view_is ∙ c.requires.speaks) c.requires.statement
    c.requires.agrees

pub returns-clause-ticks : goal.returns-clause-ticks
returns-clause-ticks g c =
    session-counted c.args.self.now c.self.inside.who c.self.inside.cursors.items c.self.inside.in_transaction (sym c.self.view_is)
    (g.H.Reach.known c.args.reach.now) (reading_of c.args.statement.now) c.run-reply.result c.args.steps.now c.run-reply.new.steps (g.H.Reach.known c.args.reach.now).log
    (g.H.Reach.known c.run-reply.new.reach).log c.run-reply.ensures.ticks
