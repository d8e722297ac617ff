use Rattle.std.proofs.Common.{◌≡◌, List, arith, ap, ◌∙◌}
use Rattle.im_history.specs.declared.change.Change.{Change}
use Rattle.im_history.specs.Puts.{all_changes}
use Rattle.im_txn.specs.Activity.{Activity, transactions}
use Rattle.im_txn.specs.LockCells.{set_cells}
use Rattle.im_txn.specs.Standing.{Standing, activity_at}
use Rattle.im_txn.proofs.StandingLemmas.{Turns-counted, end-turns, ended-set, owed-part, same-read, reads}
use Rattle.im_txn.proofs.sessions.Sessions.clear.Goals as goal

pub overflow_sub-self : goal.overflow_sub-self
overflow_sub-self c =
    let fewer : c.transactions-fewer.result ≡ transactions c.index.result.now = c.transactions-fewer.ensures in
    omega (arith, owed-part _ c.index-at.result c.index.result.now c.self.invariant c.index-at.ensures.few c.index.ensures, fewer)

pub invariant_of-self : goal.invariant_of-self
invariant_of-self c =
    let same =
    same-read _ c.index-at.result c.index.result.now c.index_mut.result.now c.self.invariant c.index-at.ensures.few c.index.ensures
    c.index_mut.ensures.value in
    Turns-counted _ _ _ _ c.free.new.self _ (end-turns _ c.index-at.result c.index_mut.result.now c.end-writes.new.self c.transactions-fewer.result
    c.self.invariant c.index-at.ensures.few c.index_mut.ensures.value c.end-writes.ensures.after (c.transactions-fewer.ensures ∙ ap transactions same))

pub returns-clause-after : goal.returns-clause-after
returns-clause-after c =
    let same =
    same-read _ c.index-at.result c.index.result.now c.index_mut.result.now c.self.invariant c.index-at.ensures.few c.index.ensures
    c.index_mut.ensures.value in
    let turns =
    end-turns _ c.index-at.result c.index_mut.result.now c.end-writes.new.self c.transactions-fewer.result c.self.invariant c.index-at.ensures.few
    c.index_mut.ensures.value c.end-writes.ensures.after (c.transactions-fewer.ensures ∙ ap transactions same) in
    let cells = c.free.ensures ∙ ap (λ (writes : List (List Change)). set_cells 0 c.self.inside.locks (all_changes writes)) c.as_slice.ensures.value in
    rw (← c.index-at.ensures.same, ← c.self.view_is) (ended-set _ _ (all_changes c.end-writes.result.items) _ _ c.free.new.self _ turns c.end-writes.ensures.after cells
    c.end-writes.ensures.handed)

pub returns-clause-handed : goal.returns-clause-handed
returns-clause-handed c =
    let is = reads _ c.index-at.result c.index_mut.result.now c.self.invariant c.index-at.ensures.few c.index_mut.ensures.value in
    rw (← c.index-at.ensures.same)
    (c.end-writes.ensures.handed
    ∙ (ap (λ (a : Activity). a.pending) is
    ∙ ap (λ (s : Standing). (activity_at s c.index-at.result).pending) c.self.view_is))
