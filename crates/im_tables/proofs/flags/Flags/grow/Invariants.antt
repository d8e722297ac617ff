use Rattle.std.proofs.Common.{◌+◌, ◌-◌, [], length}
use Rattle.im_tables.specs.Table.{IsPadded}
use Rattle.im_tables.proofs.flags.Flags.grow.Given as goal

-- only tables without flags were added
abbrev pub invariant-loop-self : goal.invariant-loop-self
invariant-loop-self l = IsPadded [] l.initial.self-inside.lines.items l.self-inside.lines.items

abbrev pub decreases-loop-self : goal.decreases-loop-self
decreases-loop-self l = l.table + 1 - length l.self-inside.lines.items
