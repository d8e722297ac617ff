use Rattle.im_lanes.proofs.MaskLemmas.{set-bit}
use Rattle.im_lanes.proofs.words.set_bit.Goals as goal

pub returns : goal.returns
returns c = set-bit c.args.words.now c.args.i c.requires.inside c.requires.small
