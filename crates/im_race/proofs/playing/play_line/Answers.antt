use Rattle.im_race.proofs.PlayingLemmas.{plays-statement, stays-statement}
use Rattle.im_race.proofs.playing.play_line.Goals as goal

pub returns-in-Session-clause-plays : goal.returns-in-Session-clause-plays
returns-in-Session-clause-plays g c =
    plays-statement c.in-Session.field-0 c.in-Session.statement c.args.line.now c.args.session.now c.execute.new.self
    (g.H.Reach.known c.args.reach.now) (g.H.Reach.known c.execute.new.reach) c.execute.result c.requires.side c.requires.limits c.in-Session.is
    c.requires.names c.requires.speaks c.execute.ensures.played

pub returns-in-Session-clause-stays : goal.returns-in-Session-clause-stays
returns-in-Session-clause-stays g c =
    stays-statement c.in-Session.field-0 c.in-Session.statement c.args.line.now c.args.session.now c.execute.new.self
    (g.H.Reach.known c.args.reach.now) (g.H.Reach.known c.execute.new.reach) c.execute.result c.requires.side c.requires.limits c.in-Session.is
    c.requires.names c.requires.speaks c.execute.ensures.played c.requires.stays
