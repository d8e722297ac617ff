use Rattle.std.proofs.Common.{length, sym, ap, ◌∙◌}
use Rattle.im_lanes.proofs.MaskLemmas.{length-bits_in}
use Rattle.im_lanes.proofs.mask.Mask.len.Goals as goal

pub returns-clause-len : goal.returns-clause-len
returns-clause-len c = sym (ap length (sym c.self.view_is) ∙ length-bits_in _ _)
