use Rattle.im_blocks.proofs.PageLemmas.{AreRead-shown}
use Rattle.im_blocks.proofs.blocks.Blocks.read_from.Goals as goal

pub returns-then-next-rid-clause-next : goal.returns-then-next-rid-clause-next
returns-then-next-rid-clause-next g c =
    AreRead-shown c.args.self.now c.args.asked c.args.rid c.shown_end-next.result c.in-Some.image.now c.args.read.now c.read_image.new.read c.in-Some.ensures
    c.shown_end-next.ensures c.if-next-rid.true c.in_ok-read_image.ensures.next
