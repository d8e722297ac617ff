use Rattle.std.proofs.Common.{◌≡◌, ◌++◌, drop}
use Rattle.im_group.proofs.tallies.copy_each.Given as goal

abbrev pub invariant-loop-one : goal.invariant-loop-one
invariant-loop-one l = l.copies.items ++ drop l.one-index l.sums ≡ l.sums
