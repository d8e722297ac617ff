use Rattle.std.proofs.Common.{take}
use Rattle.im_txn.specs.LockCells.{IsLonger, HasCells}
use Rattle.im_txn.proofs.locks.Locks.reserve_each.Given as goal

-- the changes so far have cells
abbrev pub invariant-loop-place : goal.invariant-loop-place
invariant-loop-place l = record {
  same : IsLonger l.fn.self l.self-inside.cells;
  made : HasCells l.self-inside.cells (take l.place l.changes);
}
