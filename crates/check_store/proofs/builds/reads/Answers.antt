use Rattle.std.proofs.Common.{refl}
use Rattle.check_store.proofs.UnderWayLemmas.{under_way-own}
use Rattle.check_store.proofs.builds.reads.Goals as goal

pub read_task-requires-clause-own : goal.read_task-requires-clause-own
read_task-requires-clause-own g c = under_way-own 18 refl c.args.task.now (g.H.Reach.known c.args.store.now) c.requires.lawful c.requires.under_way
