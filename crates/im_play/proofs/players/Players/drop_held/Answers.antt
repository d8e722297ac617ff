use Rattle.im_play.proofs.DroppedLemmas.{between-dropped, limits-dropped, machine-dropped}
use Rattle.im_play.proofs.SessionsLemmas.{holding-now}
use Rattle.im_play.proofs.players.Players.drop_held.Goals as goal

pub drop_held-requires-clause-agrees : goal.drop_held-requires-clause-agrees
drop_held-requires-clause-agrees g c =
    holding-now c.args.self.now.background (g.H.Reach.known c.args.reach.now) c.requires.between.holding (c.lawful.ensures c.requires.between.side)

pub returns-clause-between : goal.returns-clause-between
returns-clause-between g c =
    between-dropped c.args.self.now.sessions.items c.args.self.now.background c.drop_held.new.self (g.H.Reach.known c.args.reach.now)
    (g.H.Reach.known c.drop_held.new.reach) c.requires.between c.drop_held.ensures.dropped c.drop_held.ensures.agrees

pub returns-clause-limits : goal.returns-clause-limits
returns-clause-limits g c =
    limits-dropped c.args.self.now.sessions.items c.args.self.now.background c.drop_held.new.self (g.H.Reach.known c.args.reach.now)
    (g.H.Reach.known c.drop_held.new.reach) c.requires.between c.drop_held.ensures.dropped

pub returns-clause-dropped : goal.returns-clause-dropped
returns-clause-dropped g c =
    machine-dropped c.args.self.now.sessions.items c.args.self.now.background c.drop_held.new.self (g.H.Reach.known c.args.reach.now)
    (g.H.Reach.known c.drop_held.new.reach) c.requires.between c.drop_held.ensures.dropped
