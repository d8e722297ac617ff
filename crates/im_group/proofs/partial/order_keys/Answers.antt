use Rattle.std.proofs.Common.{◌∙◌}
use Rattle.im_group.proofs.Agreement.{keys_order}
use Rattle.im_group.proofs.partial.order_keys.Goals as goal

pub returns : goal.returns
returns c = c.cmp.ensures ∙ keys_order c.args.left.now c.args.right.now
