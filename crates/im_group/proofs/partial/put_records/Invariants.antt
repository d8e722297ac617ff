use Rattle.std.proofs.Common.{◌≡◌, ◌++◌, length, map}
use Rattle.im_group.specs.Answers.{group_cell}
use Rattle.im_group.specs.inner.Holding.{AreKeyed}
use Rattle.im_group.proofs.partial.put_records.Given as goal

abbrev pub invariant-loop-key : goal.invariant-loop-key
invariant-loop-key l =
    (l.records.items ++ map (λ g. map (group_cell l.bound.groups l.asked g.0.items g.1) l.wanted) l.key-iterator
    ≡ l.fn.records.items ++ map (λ g. map (group_cell l.bound.groups l.asked g.0.items g.1) l.wanted) l.fn.groups.entries)
    × AreKeyed (length l.bound.groups) l.key-iterator
