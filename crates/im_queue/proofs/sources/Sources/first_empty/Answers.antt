use Rattle.std.proofs.Common.{◌+◌, ◌∙◌, arith}
use Rattle.im_queue.proofs.QueueLemmas.{empty-is, full-is, unwanted-is, wants-is}
use Rattle.im_queue.proofs.sources.Sources.first_empty.Goals as goal

pub returns-then-not-is_wanted : goal.returns-then-not-is_wanted
returns-then-not-is_wanted g c history is =
    let wants =
    wants-is is c.args.place c.table.result.now c.table.ensures (omega arith) c.is_wanted.result c.is_opened.result c.is_wanted.ensures c.is_opened.ensures in
    unwanted-is history (c.args.place + 1) (wants ∙ c.if-not-is_wanted.true)

pub returns-then-extent-extents : goal.returns-then-extent-extents
returns-then-extent-extents g c history is =
    let wants =
    wants-is is c.args.place c.table.result.now c.table.ensures (omega arith) c.is_wanted.result c.is_opened.result c.is_wanted.ensures c.is_opened.ensures in
    empty-is is.lists (c.args.place + 1) c.first_empty-extent.result (wants ∙ c.if-not-is_wanted.false) c.first_empty-extent.ensures
    (omega (arith, c.if-extent-extents.true, c.extents.ensures history is))

pub returns-else-extent-extents : goal.returns-else-extent-extents
returns-else-extent-extents g c history is =
    full-is is.lists (c.args.place + 1) c.first_empty-extent.result c.first_empty-extent.ensures
    (omega (arith, c.if-extent-extents.false, c.extents.ensures history is))
