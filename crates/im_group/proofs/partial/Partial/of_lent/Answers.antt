use Rattle.im_group.proofs.GroupSteps.{lent-fits}
use Rattle.im_group.proofs.partial.Partial.of_lent.Goals as goal

pub part_of-requires : goal.part_of-requires
part_of-requires c = lent-fits c.args.bound.now c.args.rows.now c.requires.fits
