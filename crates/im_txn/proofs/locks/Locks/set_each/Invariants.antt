use Rattle.std.proofs.Common.{◌≡◌, drop}
use Rattle.im_txn.specs.LockCells.{set_cells}
use Rattle.im_txn.proofs.locks.Locks.set_each.Given as goal

-- setting what is left sets all
abbrev pub invariant-loop-place : goal.invariant-loop-place
invariant-loop-place l = set_cells l.value l.self (drop l.place l.changes) ≡ set_cells l.value l.fn.self l.changes
