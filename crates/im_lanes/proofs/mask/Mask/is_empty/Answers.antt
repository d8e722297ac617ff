use Rattle.std.proofs.Common.{length, nat_eq, sym, ap, ◌∙◌}
use Rattle.im_lanes.proofs.MaskLemmas.{length-bits_in}
use Rattle.im_lanes.proofs.mask.Mask.is_empty.Goals as goal

pub returns : goal.returns
returns c = ap (λ n. nat_eq n 0) (sym (ap length (sym c.self.view_is) ∙ length-bits_in _ _))
