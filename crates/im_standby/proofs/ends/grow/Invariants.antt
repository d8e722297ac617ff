use Rattle.std.specs.Prelude.{◌+◌, ◌-◌, length}
use Rattle.im_tables.specs.Table.{IsPadded}
use Rattle.im_standby.proofs.ends.grow.Given as goal

-- only tables without row numbers were added
abbrev pub invariant-loop-ends : goal.invariant-loop-ends
invariant-loop-ends l = IsPadded 0 l.fn.ends.items l.ends.items

abbrev pub decreases-loop-ends : goal.decreases-loop-ends
decreases-loop-ends l = l.table + 1 - length l.ends.items
