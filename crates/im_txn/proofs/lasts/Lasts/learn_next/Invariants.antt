use Rattle.std.proofs.Common.{◌≡◌, ◌-◌, length}
use Rattle.im_txn.specs.inner.Lasts.{AreLasts}
use Rattle.im_txn.proofs.lasts.Lasts.learn_next.Given as goal

-- the changes so far are known
abbrev pub invariant-loop-self : goal.invariant-loop-self
invariant-loop-self l = record {
  known : l.self.known ≡ l.fn.self.known;
  lasts : AreLasts l.self.known l.self.part l.self.tables.items l.pending;
}

abbrev pub decreases-loop-self : goal.decreases-loop-self
decreases-loop-self l = length l.changes - l.self.part
