use Rattle.std.proofs.Common.{◌+◌, ◌-◌, [], length}
use Rattle.im_tables.specs.Table.{IsPadded}
use Rattle.im_tables.proofs.cells.Cells.grow.Given as goal

-- only tables without cells were added
abbrev pub invariant-loop-self : goal.invariant-loop-self
invariant-loop-self g l = IsPadded [] l.initial.self-inside.lines.items l.self-inside.lines.items

abbrev pub decreases-loop-self : goal.decreases-loop-self
decreases-loop-self g l = l.table + 1 - length l.self-inside.lines.items
