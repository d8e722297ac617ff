use Rattle.im_core.proofs.SeenLemmas.{Holds-seen}
use Rattle.im_core.proofs.store.Core.known.Goals as goal

pub returns : goal.returns
returns g c =
    let holds = Holds-seen c.self.invariant c.self.view_is in
    record { small = holds.small; legal = holds.legal }
