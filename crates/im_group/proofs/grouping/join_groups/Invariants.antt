use Rattle.std.proofs.Common.{◌≤◌, length}
use Rattle.indexmap.specs.IndexMap.{spare}
use Rattle.im_group.proofs.Merging.{Joins}
use Rattle.im_group.proofs.grouping.join_groups.Given as goal

abbrev pub invariant-loop-key : goal.invariant-loop-key
invariant-loop-key l = Joins (λ k. k.items) l.fn.groups.entries l.fn.others.entries l.key-iterator l.groups.entries × (length l.key-iterator ≤ spare l.groups)
