use Rattle.im_bits.proofs.PackedLemmas.{codes_in-fit}
use Rattle.im_bits.proofs.bits.Bits.words.Goals as goal

pub returns-clause-fit : goal.returns-clause-fit
returns-clause-fit c = rw (← c.self.view_is) (codes_in-fit _ _ _)
