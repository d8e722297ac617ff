use Rattle.std.proofs.Common.{◌≡◌, ◌+◌, ap, ◌∙◌, sym, arith}
use Rattle.im_history.specs.Commits.{scn}
use Rattle.im_history.specs.Puts.{all_changes}
use Rattle.im_history.specs.Stored.{Stored}
use Rattle.im_blocks.specs.Readied.{ready_changes}
use Rattle.im_blocks.proofs.ForCallers.{IsKept-same, ready_to_apply}
use Rattle.im_directory.proofs.ForCallers.{Agrees-told, IsBefore-by}
use Rattle.im_core.proofs.HoldsLemmas.{is-number, grew-reserved, grew-who, Holds-roomier, Holds-commit}
use Rattle.im_core.proofs.store.Core.record_commit.Goals as goal

pub overflow_add-committed : goal.overflow_add-committed
overflow_add-committed g c = let few = c.scn.ensures.few in omega (arith, few)

pub invariant_of-self-in_err-reserve : goal.invariant_of-self-in_err-reserve
invariant_of-self-in_err-reserve g c =
    Holds-roomier _ _ c.self.inside.history _ _ _ c.self.invariant c.reserve.ensures.same c.reserve-2.ensures.same

pub invariant_of-self-in_err-reserve-2 : goal.invariant_of-self-in_err-reserve-2
invariant_of-self-in_err-reserve-2 g c =
    rw c.in_err-reserve-2.ensures.err (Holds-roomier _ _ c.self.inside.history _ _ _ c.self.invariant c.reserve.ensures.same c.reserve-2.ensures.same)

pub note-requires-clause-later : goal.note-requires-clause-later
note-requires-clause-later g c =
    let made = ap (λ (s : Stored). s.entries) c.in_ok-reserve-2.ensures.ok in
    let now : c.scn.result ≡ scn c.self.inside.history.entries = c.scn.ensures.scn ∙ ap scn made in
    IsBefore-by _ c.self.inside.history.entries c.reserve-2.new.self (c.scn.result + 1)
    (Agrees-told _ c.self.inside.history.entries c.self.inside.directory c.reserve-2.new.self c.self.invariant.units c.reserve-2.ensures.same)
    (omega (arith, now))

pub apply-requires-clause-later : goal.apply-requires-clause-later
apply-requires-clause-later g c =
    let made = ap (λ (s : Stored). s.entries) c.in_ok-reserve-2.ensures.ok in
    rw (c.scn.ensures.scn ∙ ap scn made)
    (ready_to_apply c.self.inside.history.entries c.reserve.new.self
    (IsKept-same c.self.inside.history.entries c.self.inside.blocks c.reserve.new.self c.reserve.ensures.same c.self.invariant.rows))

pub invariant_of-self-2 : goal.invariant_of-self-2
invariant_of-self-2 g c =
    let made = ap (λ (s : Stored). s.entries) c.in_ok-reserve-2.ensures.ok in
    let changes = c.clear-writes.ensures.handed ∙ c.self.invariant.sessions.changes c.args.who in
    let ready : ready_changes c.in_ok-ready.ready.items ≡ all_changes c.clear-writes.result.items =
    c.in_ok-ready.ensures.ready.changes_are ∙ (c.pending.ensures ∙ sym c.clear-writes.ensures.handed) in
    Holds-commit _ _ c.self.inside.history _ _ c.args.who _ _ _ _ _ c.reserve-2.new.self _ c.self.invariant
    (is-number _ _ c.number.ensures.same c.number.ensures.few) (c.scn.ensures.scn ∙ ap scn made) c.reserve.ensures.same
    (grew-who _ _ _ _ _ _ c.number.ensures.same
    (grew-reserved c.self.inside.history c.reserve-3.new.self _ _ _ (rw c.owed.ensures.owed at c.in_ok-reserve-2.ensures.ok) c.append.ensures.added))
    changes c.clear-writes.ensures.after (rw ready at c.apply.ensures) c.reserve-2.ensures.same
    (rw c.as_slice.ensures.value at c.note.ensures)
