use Rattle.std.proofs.Common.{refl}
use Rattle.im_queue.proofs.ForCallers.{IsDemand-nil}
use Rattle.im_queue.proofs.demand.Demand.new.Goals as goal

pub returns : goal.returns
returns c = IsDemand-nil _ refl refl refl
