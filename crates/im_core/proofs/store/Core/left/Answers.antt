use Rattle.std.proofs.Common.{arith}
use Rattle.im_history.proofs.LeaveLaws.{leaves-numbers}
use Rattle.im_core.proofs.store.Core.left.Goals as goal

pub overflow_cast-result : goal.overflow_cast-result
overflow_cast-result g c =
    let few = leaves-numbers _ c.self.inside.history.entries c.self.invariant.legal in
    let is = c.left.ensures in
    let counted = c.demand.ensures.left in
    omega (arith, few, is, counted)
