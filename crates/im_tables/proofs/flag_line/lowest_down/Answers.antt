use Rattle.im_tables.proofs.FlagLemmas.{lowest-down}
use Rattle.im_tables.proofs.flag_line.lowest_down.Goals as goal

pub returns : goal.returns
returns c = rw c.trailing_ones.ensures (lowest-down c.args.word c.requires c.ranges.word.fits)
