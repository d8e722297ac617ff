use Rattle.std.proofs.Common.{◌∙◌}
use Rattle.im_queue.proofs.QueueLemmas.{extents-are}
use Rattle.im_queue.proofs.sources.Sources.extents.Goals as goal

pub returns : goal.returns
returns g c history is =
    c.div_ceil.ensures
    ∙ (rw (c.given_at.ensures, c.per_extent.ensures.product)
    (extents-are is c.args.place c.table.result.now c.table.ensures (rw c.per_extent.ensures.product at c.per_extent.ensures.some)))
