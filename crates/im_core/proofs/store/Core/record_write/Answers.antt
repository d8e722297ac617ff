use Rattle.std.proofs.Common.{◌≤◌, length, sym, subst, ap, ◌∙◌}
use Rattle.im_history.specs.declared.entry.What.TheVariants.{Write}
use Rattle.im_history.specs.Legal.{IsAllowed}
use Rattle.im_history.specs.Stored.{Stored}
use Rattle.im_history.specs.Tables.{tables}
use Rattle.im_txn.proofs.ForCallers.{IsFree-grown}
use Rattle.im_core.specs.inner.Kept.{Gives, beginning_at}
use Rattle.im_core.specs.Seen.{Seen}
use Rattle.im_core.proofs.HoldsLemmas.{is-number, grew-reserved, grew-who, grew-write, Holds-grown, Holds-write}
use Rattle.im_core.proofs.WriteLemmas.{free_allowed}
use Rattle.im_core.proofs.store.Core.record_write.Goals as goal

pub invariant_of-self : goal.invariant_of-self
invariant_of-self g c = Holds-grown _ _ c.self.inside.history _ _ c.self.invariant c.reserve_write.ensures.same

pub invariant_of-self-in_err-reserve : goal.invariant_of-self-in_err-reserve
invariant_of-self-in_err-reserve g c = rw c.in_err-reserve.ensures.err (Holds-grown _ _ c.self.inside.history _ _ c.self.invariant c.reserve_write.ensures.same)

pub write-requires-clause-free : goal.write-requires-clause-free
write-requires-clause-free g c =
    let allowed = subst (λ (s : Seen). IsAllowed s.limits s.log c.args.who (Write c.args.changes)) (sym c.self.view_is) c.requires.allowed in
    IsFree-grown _ _ c.args.who c.args.changes
    (free_allowed c.self.inside.limits c.self.inside.history.entries _ c.args.who c.args.changes c.self.invariant.sessions allowed)
    c.reserve_write.ensures.same

pub invariant_of-self-2 : goal.invariant_of-self-2
invariant_of-self-2 g c =
    let made = ap (λ (s : Stored). s.entries) c.in_ok-reserve.ensures.ok in
    let allowed = subst (λ (s : Seen). IsAllowed s.limits s.log c.args.who (Write c.args.changes)) (sym c.self.view_is) c.requires.allowed in
    let gives = subst (λ (s : Seen). Gives s.log c.args.table c.args.changes c.args.count) (sym c.self.view_is) c.requires.gives in
    let last = subst (λ (s : Seen). c.args.table ≤ length (tables s.log)) (sym c.self.view_is) c.requires.table.1 in
    let begins = c.beginning-beginning.ensures ∙ ap (λ (s : Seen). beginning_at s.log c.args.who) (sym c.self.view_is) in
    let free =
    IsFree-grown _ _ c.args.who c.args.changes
    (free_allowed c.self.inside.limits c.self.inside.history.entries _ c.args.who c.args.changes c.self.invariant.sessions allowed)
    c.reserve_write.ensures.same in
    Holds-write _ _ c.self.inside.history _ _ c.args.who _ _ c.args.table c.args.count _ _ c.args.changes _ _ c.self.invariant
    (is-number _ _ c.number.ensures.same c.number.ensures.few) c.index.ensures.same c.requires.table.0
    (rw (c.self.invariant.tables.long ∙ ap length c.self.invariant.tables.tables) last) allowed gives (c.len-place.ensures ∙ ap length made) begins
    c.requires.weight c.reserve_write.ensures.same free
    (grew-write c.self.inside.history _ c.args.who _ c.in_ok-kept.kept c.args.changes c.in_ok-kept.ensures
    (grew-who _ _ _ _ _ _ c.number.ensures.same
    (grew-reserved c.self.inside.history c.reserve.new.self _ _ _ (rw c.owed.ensures.owed at c.in_ok-reserve.ensures.ok) c.append.ensures.added)))
    c.write.ensures
