use Rattle.std.proofs.Common.{◌≡◌, ◌++◌, map, drop}
use Rattle.im_group.specs.inner.Narrowing.{picked}
use Rattle.im_group.proofs.counted.narrowed.Given as goal

abbrev pub invariant-loop-one : goal.invariant-loop-one
invariant-loop-one l = l.sums.items ++ map (picked l.counted.sums.items) (drop l.one-index l.asked) ≡ map (picked l.counted.sums.items) l.asked
