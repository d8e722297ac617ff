use Rattle.std.proofs.Common.{◌+◌, ◌-◌, ◌≤◌, length, max}
use Rattle.im_tables.specs.Table.{IsPadded}
use Rattle.im_tables.proofs.line.Line.grow.Given as goal

-- only empty cells were added, up to this number
abbrev pub invariant-loop-alloc : goal.invariant-loop-alloc
invariant-loop-alloc g l =
    IsPadded g.T.Cell.blank l.initial.self-inside.cells.items l.self-inside.cells.items
    × (length l.self-inside.cells.items ≤ max (length l.initial.self-inside.cells.items) (l.number + 1))

abbrev pub decreases-loop-alloc : goal.decreases-loop-alloc
decreases-loop-alloc g l = l.number + 1 - length l.self-inside.cells.items
