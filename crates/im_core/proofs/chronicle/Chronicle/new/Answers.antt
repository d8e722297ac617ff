use Rattle.std.proofs.Common.{refl, arith}
use Rattle.im_history.proofs.HorizonLaws.{horizon-nil}
use Rattle.im_core.proofs.chronicle.Chronicle.new.Goals as goal

pub invariant_of-result : goal.invariant_of-result
invariant_of-result c = rw c.new.ensures (c.new-2.ensures, omega arith, c.new-3.ensures, rw horizon-nil refl)
