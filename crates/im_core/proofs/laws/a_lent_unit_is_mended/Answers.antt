use Rattle.im_core.proofs.PinLemmas.{mended-rows}
use Rattle.im_core.proofs.laws.a_lent_unit_is_mended.Goals as goal

pub returns : goal.returns
returns c = mended-rows
