use Rattle.std.proofs.Common.{◌-◌, length}
use Rattle.im_txn.specs.inner.Lasts.{AreLasts}
use Rattle.im_txn.proofs.lasts.Lasts.learn.Given as goal

-- the changes so far are known
abbrev pub invariant-loop-self : goal.invariant-loop-self
invariant-loop-self l = AreLasts l.self.known l.self.part l.self.tables.items l.pending

abbrev pub decreases-loop-self : goal.decreases-loop-self
decreases-loop-self l = length l.pending - l.self.known
