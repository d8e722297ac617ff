use Rattle.std.proofs.Common.{sym, ap, ◌∙◌, length, nat_eq}
use Rattle.im_bits.proofs.PackedLemmas.{length-codes_in}
use Rattle.im_bits.proofs.bits.Bits.is_empty.Goals as goal

pub returns : goal.returns
returns c = ap (λ n. nat_eq n 0) (sym (ap (λ b. length b.codes) (sym c.self.view_is) ∙ length-codes_in _ _ _))
