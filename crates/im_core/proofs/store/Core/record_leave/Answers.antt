use Rattle.std.proofs.Common.{sym, subst}
use Rattle.im_history.specs.Legal.{MayLeave}
use Rattle.im_core.specs.Seen.{Seen}
use Rattle.im_core.proofs.HoldsLemmas.{is-number, grew-reserved, grew-who}
use Rattle.im_core.proofs.UnitLemmas.{Holds-leave}
use Rattle.im_core.proofs.store.Core.record_leave.Goals as goal

pub invariant_of-self-2 : goal.invariant_of-self-2
invariant_of-self-2 g c =
    let may = subst (λ (s : Seen). MayLeave s.log c.args.who) (sym c.self.view_is) c.requires.may in
    Holds-leave _ _ c.self.inside.history _ _ c.args.who c.self.invariant (is-number _ _ c.number.ensures.same c.number.ensures.few) may
    (grew-who _ _ _ _ _ _ c.number.ensures.same
    (grew-reserved c.self.inside.history c.reserve.new.self _ _ _ (rw c.owed.ensures.owed at c.in_ok-reserve.ensures.ok) c.append.ensures.added))
