use Rattle.im_core.proofs.HorizonLemmas.{task-old}
use Rattle.im_core.proofs.store.Core.fetch_beside.Goals as goal

pub fetch_stale-requires : goal.fetch_stale-requires
fetch_stale-requires g c = record { old = task-old _ _ c.args.task.now c.known.ensures.legal c.requires.held }
