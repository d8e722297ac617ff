use Rattle.im_lanes.proofs.MaskLemmas.{clear-bit}
use Rattle.im_lanes.proofs.words.clear_bit.Goals as goal

pub returns : goal.returns
returns c = clear-bit c.args.words.now c.args.i c.requires.inside c.requires.small
