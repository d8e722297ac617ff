use Rattle.std.proofs.Common.{refl}
use Rattle.check_store.proofs.GoingLemmas.{went-added}
use Rattle.check_store.proofs.UnderWayLemmas.{under_way-exists}
use Rattle.check_store.proofs.builds.evict_of.Goals as goal

pub evict-requires-clause-exists : goal.evict-requires-clause-exists
evict-requires-clause-exists g c = under_way-exists 18 refl c.args.task.now (g.H.Reach.known c.args.store.now) c.requires.lawful c.requires.under_way

pub returns-in-Ok : goal.returns-in-Ok
returns-in-Ok g c = λ place is.
    went-added (g.H.Reach.known c.args.store.now) (g.H.Reach.known c.evict.new.self) 20 _ _ c.requires.sole c.in-Ok.ensures.ok
