use Rattle.check_store.proofs.GoingLemmas.{went-none, went-played}
use Rattle.check_store.proofs.lines.play_kind.Goals as goal

pub returns-in-Session-clause-went : goal.returns-in-Session-clause-went
returns-in-Session-clause-went g c =
    went-played _ c.args.session.now c.execute.new.self (g.H.Reach.known c.args.store.now) (g.H.Reach.known c.execute.new.reach) c.execute.result
    c.requires.session c.requires.sole c.execute.ensures.played

pub returns-in_default-clause-went : goal.returns-in_default-clause-went
returns-in_default-clause-went g c = went-none 1 (g.H.Reach.known c.args.store.now)
