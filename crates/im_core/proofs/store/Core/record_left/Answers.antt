use Rattle.std.proofs.Common.{length, sym, subst, ap, ◌∙◌}
use Rattle.im_history.specs.Legal.{MaySetMemory}
use Rattle.im_history.specs.Stored.{Stored}
use Rattle.im_core.specs.Seen.{Seen}
use Rattle.im_core.proofs.HoldsLemmas.{is-number, grew-reserved, grew-who}
use Rattle.im_core.proofs.UnitLemmas.{Holds-left}
use Rattle.im_core.proofs.store.Core.record_left.Goals as goal

pub invariant_of-self-2 : goal.invariant_of-self-2
invariant_of-self-2 g c =
    let may = subst (λ (s : Seen). MaySetMemory s.log c.args.who c.args.table) (sym c.self.view_is) c.requires.may in
    let made = ap (λ (s : Stored). s.entries) c.in_ok-reserve.ensures.ok in
    Holds-left _ _ c.self.inside.history _ _ c.args.who c.args.table _ _ _ c.self.invariant (is-number _ _ c.number.ensures.same c.number.ensures.few) may
    c.in_ok-catalog.ensures (c.len-place.ensures ∙ ap length made)
    (grew-who _ _ _ _ _ _ c.number.ensures.same
    (grew-reserved c.self.inside.history c.reserve.new.self _ _ _ (rw c.owed.ensures.owed at c.in_ok-reserve.ensures.ok) c.append.ensures.added))
    c.drop_table.ensures
