use Rattle.std.proofs.Common.{[], ◌∷◌, ◌++◌, length, sym, ap, ◌∙◌}
use Rattle.im_history.specs.declared.entry.What.TheVariants.{Purge}
use Rattle.im_history.specs.Horizon.{keep}
use Rattle.im_history.specs.Stored.{Stored}
use Rattle.im_core.specs.Seen.{Seen}
use Rattle.im_core.proofs.HoldsLemmas.{is-number, grew-reserved, grew-who, Holds-purge}
use Rattle.im_core.proofs.HorizonLemmas.{kept-counted, purged-is}
use Rattle.im_core.proofs.store.Core.record_purge.Goals as goal

pub invariant_of-self-2 : goal.invariant_of-self-2
invariant_of-self-2 g c =
    Holds-purge _ _ c.self.inside.history _ c.append_purge.new.self c.args.who c.keep-horizon.result _ c.self.invariant
    (is-number _ _ c.number.ensures.same c.number.ensures.few) (c.keep-horizon.ensures ∙ ap (λ (s : Seen). keep s.log) (sym c.self.view_is))
    (grew-who _ _ _ _ _ _ c.number.ensures.same
    (grew-reserved c.self.inside.history c.reserve.new.self _ _ _ (rw c.owed.ensures.owed at c.in_ok-reserve.ensures.ok) c.append_purge.ensures.added))
    c.purge.ensures

pub returns-clause-purged : goal.returns-clause-purged
returns-clause-purged g c =
    let holds =
    Holds-purge _ _ c.self.inside.history _ c.append_purge.new.self c.args.who c.keep-horizon.result _ c.self.invariant
    (is-number _ _ c.number.ensures.same c.number.ensures.few) (c.keep-horizon.ensures ∙ ap (λ (s : Seen). keep s.log) (sym c.self.view_is))
    (grew-who _ _ _ _ _ _ c.number.ensures.same
    (grew-reserved c.self.inside.history c.reserve.new.self _ _ _ (rw c.owed.ensures.owed at c.in_ok-reserve.ensures.ok) c.append_purge.ensures.added))
    c.purge.ensures in
    let made = ap (λ (s : Stored). s.entries) c.in_ok-reserve.ensures.ok ∙ ap (λ (s : Seen). s.log) c.self.view_is in
    purged-is c.args.self.now.log c.append_purge.new.self.entries c.number.result _ _ _ (c.len-place.ensures ∙ ap length made) c.keep-horizon.ensures
    (ap (λ (s : Stored). s.entries) c.append_purge.ensures.added ∙ ap (λ h. h ++ record { who = c.number.result; what = Purge } ∷ []) made)
    (kept-counted c.self.inside.blocks c.keep-horizon.result _ _ holds c.purge.ensures c.versions.ensures c.if-versions.false c.versions-2.ensures)
