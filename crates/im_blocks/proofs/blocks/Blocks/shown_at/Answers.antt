use Rattle.im_blocks.proofs.PageLemmas.{shown-at}
use Rattle.im_blocks.proofs.blocks.Blocks.shown_at.Goals as goal

pub returns : goal.returns
returns c =
    shown-at c.args.self.now c.args.table c.args.rid c.args.scn c.in_ok-image.image.now c.in_ok-values.values.now c.in_ok-image.ensures c.in_ok-values.ensures
