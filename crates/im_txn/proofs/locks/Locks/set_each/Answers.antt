use Rattle.std.proofs.Common.{◌+◌, drop, sym, ap, ◌∙◌, arith}
use Rattle.im_history.specs.Puts.{lent_change}
use Rattle.im_txn.specs.LockCells.{Locks, set_cells}
use Rattle.im_txn.proofs.CellLemmas.{set_cells-next}
use Rattle.im_txn.proofs.locks.Locks.set_each.Goals as goal

pub loop-place-preserved : goal.loop-place-preserved
loop-place-preserved c =
    let changes = c.args.changes.now in
    ap (λ (all : Locks). set_cells c.args.value all (drop (c.loop-place.place + 1) changes)) c.set.ensures
    ∙ (sym (set_cells-next c.args.value c.loop-place.self changes c.loop-place.place (lent_change c.at-change.result) c.at-change.ensures (omega arith))
    ∙ c.loop-place.invariant)
