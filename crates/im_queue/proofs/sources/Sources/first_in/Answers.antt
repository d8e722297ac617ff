use Rattle.std.proofs.Common.{◌+◌}
use Rattle.im_queue.proofs.QueueLemmas.{due-is, stale-is}
use Rattle.im_queue.proofs.sources.Sources.first_in.Goals as goal

pub returns-in-Due : goal.returns-in-Due
returns-in-Due g c history is =
    rw c.in-Due.is (due-is is.lists (c.args.place + 1) c.first_due.result c.first_due.ensures.due c.first_due.ensures.none)

pub returns-in-Stale : goal.returns-in-Stale
returns-in-Stale g c history is =
    rw c.in-Stale.is (stale-is is.lists (c.args.place + 1) c.first_stale.result c.first_stale.ensures.stale c.first_stale.ensures.none)
