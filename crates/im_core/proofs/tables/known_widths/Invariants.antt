use Rattle.std.proofs.Common.{take}
use Rattle.im_history.specs.Legal.{AreNarrow}
use Rattle.im_core.proofs.tables.known_widths.Given as goal

-- so far
abbrev pub invariant-loop-column : goal.invariant-loop-column
invariant-loop-column l = AreNarrow (take l.column-index l.column-items)
