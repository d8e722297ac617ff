use Rattle.im_race.proofs.PlayingLemmas.{worker-worked}
use Rattle.im_race.proofs.playing.play_worker.Goals as goal

pub returns-clause-worker : goal.returns-clause-worker
returns-clause-worker g c =
    worker-worked c.new.result c.args.who c.args.turns c.args.sessions (g.H.Reach.known c.args.reach.now) (g.H.Reach.known c.work.new.reach)
    c.work.result c.new.ensures c.requires.side c.work.ensures.worked
