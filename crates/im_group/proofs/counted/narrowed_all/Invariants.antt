use Rattle.std.proofs.Common.{◌≡◌, ◌++◌, map, drop}
use Rattle.im_group.specs.Counts.{counts_in}
use Rattle.im_group.specs.MadeGroups.{groups_in}
use Rattle.im_group.specs.inner.Narrowing.{narrowed_group}
use Rattle.im_group.proofs.counted.narrowed_all.Given as goal

abbrev pub invariant-loop-counted : goal.invariant-loop-counted
invariant-loop-counted l =
    groups_in l.groups.items ++ map (narrowed_group l.asked) (counts_in (drop l.counted-index l.counts)) ≡ map (narrowed_group l.asked) (counts_in l.counts)
