use Rattle.std.proofs.Common.{◌≡◌, ◌+◌, ◌-◌, length}
use Rattle.im_txn.specs.inner.Lasts.{ReadsSame}
use Rattle.im_txn.proofs.lasts.Lasts.reach.Given as goal

-- the new tables have no change
abbrev pub invariant-loop-alloc : goal.invariant-loop-alloc
invariant-loop-alloc l = record {
  known : l.self.known ≡ l.fn.self.known;
  part : l.self.part ≡ l.fn.self.part;
  same : ReadsSame l.fn.self.tables.items l.self.tables.items;
}

abbrev pub decreases-loop-alloc : goal.decreases-loop-alloc
decreases-loop-alloc l = l.table + 1 - length l.self.tables.items
