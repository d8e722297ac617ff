use Rattle.std.proofs.Common.{◌≡◌, drop}
use Rattle.im_history.specs.Puts.{all_changes}
use Rattle.im_txn.specs.LockCells.{set_cells}
use Rattle.im_txn.proofs.locks.Locks.free.Given as goal

-- freeing what is left frees all
abbrev pub invariant-loop-changes : goal.invariant-loop-changes
invariant-loop-changes l = set_cells 0 l.self (all_changes (drop l.changes-index l.writes)) ≡ set_cells 0 l.fn.self (all_changes l.writes)
