use Rattle.std.proofs.Common.{◌∙◌}
use Rattle.im_lanes.proofs.BitLemmas.{or-above, byte-is}
use Rattle.im_lanes.proofs.words.with_bit.Goals as goal

pub returns : goal.returns
returns c = or-above c.args.word c.args.place _ c.args.chosen c.requires.above c.requires.place (c.from.ensures ∙ byte-is c.args.chosen)
