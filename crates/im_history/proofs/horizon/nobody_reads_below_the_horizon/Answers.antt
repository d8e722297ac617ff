use Rattle.im_history.proofs.HorizonLaws.{none_below}
use Rattle.im_history.proofs.horizon.nobody_reads_below_the_horizon.Goals as goal

pub returns : goal.returns
returns c = none_below
