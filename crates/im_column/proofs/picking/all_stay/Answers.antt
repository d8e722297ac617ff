use Rattle.std.proofs.Common.{arith}
use Rattle.im_codes.specs.Dictionary.{lent}
use Rattle.im_column.proofs.PickLemmas.{all-stay}
use Rattle.im_column.proofs.picking.all_stay.Goals as goal

pub returns : goal.returns
returns c = all-stay c.args.old.now (lent c.args.fresh.now) c.args.places.now c.loop-i.i c.requires.long (omega arith) c.loop-i.invariant
