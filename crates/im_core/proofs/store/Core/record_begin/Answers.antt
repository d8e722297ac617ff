use Rattle.std.proofs.Common.{◌≡◌, length, None, sym, subst, ap, ◌∙◌}
use Rattle.im_history.specs.Commits.{scn}
use Rattle.im_history.specs.Refusals.{begin_refusal}
use Rattle.im_history.specs.Stored.{Stored}
use Rattle.im_core.specs.Seen.{Seen}
use Rattle.im_core.proofs.HoldsLemmas.{is-number, grew-reserved, grew-who, Holds-begin}
use Rattle.im_core.proofs.store.Core.record_begin.Goals as goal

pub invariant_of-self-2 : goal.invariant_of-self-2
invariant_of-self-2 g c =
    let made = ap (λ (s : Stored). s.entries) c.in_ok-reserve.ensures.ok in
    let allowed = subst (λ (s : Seen). begin_refusal s.log c.args.who ≡ None) (sym c.self.view_is) c.requires.allowed in
    Holds-begin _ _ c.self.inside.history _ _ c.args.who _ _ c.args.mode _ _ c.self.invariant (is-number _ _ c.number.ensures.same c.number.ensures.few)
    c.index.ensures.same allowed (c.len.ensures ∙ ap length made) (c.scn.ensures.scn ∙ ap scn made)
    (grew-who _ _ _ _ _ _ c.number.ensures.same
    (grew-reserved c.self.inside.history c.reserve.new.self _ _ _ (rw c.owed.ensures.owed at c.in_ok-reserve.ensures.ok) c.append.ensures.added))
    c.begin.ensures
