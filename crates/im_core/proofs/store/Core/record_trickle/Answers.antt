use Rattle.im_core.proofs.HoldsLemmas.{is-number, grew-reserved, grew-who}
use Rattle.im_core.proofs.UnitLemmas.{Holds-trickle}
use Rattle.im_core.proofs.store.Core.record_trickle.Goals as goal

pub invariant_of-self-2 : goal.invariant_of-self-2
invariant_of-self-2 g c =
    Holds-trickle _ _ c.self.inside.history _ _ c.args.who c.args.n c.self.invariant (is-number _ _ c.number.ensures.same c.number.ensures.few)
    (grew-who _ _ _ _ _ _ c.number.ensures.same
    (grew-reserved c.self.inside.history c.reserve.new.self _ _ _ (rw c.owed.ensures.owed at c.in_ok-reserve.ensures.ok) c.append.ensures.added))
