use Rattle.im_tables.proofs.FlagLemmas.{lowest-up}
use Rattle.im_tables.proofs.flag_line.lowest_up.Goals as goal

pub returns : goal.returns
returns c = lowest-up c.args.word c.requires c.ranges.word.fits
