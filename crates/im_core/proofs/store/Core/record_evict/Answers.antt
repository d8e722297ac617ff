use Rattle.std.proofs.Common.{◌≡◌, Some, length, sym, subst, ap, ◌∙◌, is_some}
use Rattle.std.specs.Option.{option_map}
use Rattle.im_history.specs.Stored.{Stored}
use Rattle.im_history.specs.Units.{unit_content}
use Rattle.im_core.specs.Seen.{Seen}
use Rattle.im_core.proofs.HoldsLemmas.{is-number, grew-reserved, grew-who}
use Rattle.im_core.proofs.UnitLemmas.{Holds-evict, unit-by, unit_content-by}
use Rattle.im_core.proofs.store.Core.record_evict.Goals as goal

pub invariant_of-self-2 : goal.invariant_of-self-2
invariant_of-self-2 g c =
    let h = c.self.inside.history.entries in
    let ok = c.in_ok-reserve.ensures.ok in
    let made = ap (λ (s : Stored). s.entries) ok in
    let there =
    unit-by _ h c.self.inside.directory c.args.table c.args.extent c.unwrap-old.result.value c.self.invariant.units
    (sym c.evict.ensures.before ∙ ap (option_map (λ unit. unit.value)) c.unwrap-old.ensures) in
    Holds-evict _ _ c.self.inside.history _ _ c.args.who c.args.table c.args.extent _ _ c.self.invariant
    (is-number _ _ c.number.ensures.same c.number.ensures.few) (ap is_some there) (c.len-place.ensures ∙ ap length made)
    (grew-who _ _ _ _ _ _ c.number.ensures.same
    (grew-reserved c.self.inside.history c.reserve.new.self _ _ _ (rw c.owed.ensures.owed at ok) c.append.ensures.added))
    c.evict.ensures.dropped

pub returns-clause-was : goal.returns-clause-was
returns-clause-was g c =
    let content = g.U.UnitLike.content in
    let h = c.self.inside.history.entries in
    let was =
    sym (unit_content-by content h c.self.inside.directory c.args.table c.args.extent c.self.invariant.units)
    ∙ (ap (option_map content) (sym c.evict.ensures.before)
    ∙ ap (λ unit. option_map content (option_map (λ unit. unit.value) unit)) c.unwrap-old.ensures) in
    subst (λ (s : Seen). unit_content s.log c.args.table c.args.extent ≡ Some (content c.unwrap-old.result.value)) c.self.view_is was
