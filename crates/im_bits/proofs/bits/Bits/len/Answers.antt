use Rattle.std.proofs.Common.{sym, ap, ◌∙◌, length}
use Rattle.im_bits.proofs.PackedLemmas.{length-codes_in}
use Rattle.im_bits.proofs.bits.Bits.len.Goals as goal

pub returns-clause-len : goal.returns-clause-len
returns-clause-len c = sym (ap (λ b. length b.codes) (sym c.self.view_is) ∙ length-codes_in _ _ _)
