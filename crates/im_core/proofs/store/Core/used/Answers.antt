use Rattle.std.proofs.Common.{◌∙◌}
use Rattle.im_core.proofs.SeenLemmas.{Holds-seen}
use Rattle.im_core.proofs.UnitLemmas.{used-is}
use Rattle.im_core.proofs.store.Core.used.Goals as goal

pub returns : goal.returns
returns g c = c.used.ensures ∙ used-is g.U.UnitLike.content _ _ _ (Holds-seen c.self.invariant c.self.view_is)
