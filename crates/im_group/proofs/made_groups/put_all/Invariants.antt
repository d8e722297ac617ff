use Rattle.std.proofs.Common.{◌≡◌}
use Rattle.im_group.specs.MadeGroups.{groups_in}
use Rattle.im_group.specs.inner.Holding.{own}
use Rattle.im_group.specs.inner.Steps.{all_placed}
use Rattle.im_group.proofs.made_groups.put_all.Given as goal

abbrev pub invariant-loop-group : goal.invariant-loop-group
invariant-loop-group l = own l.groups.entries ≡ all_placed (groups_in l.yielded)
