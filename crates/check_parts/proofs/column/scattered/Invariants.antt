use Rattle.std.proofs.Common.{All}
use Rattle.im_column.specs.Forms.{IsShort}
use Rattle.check_parts.proofs.column.scattered.Given as goal

abbrev pub invariant-loop-i : goal.invariant-loop-i
invariant-loop-i l = All IsShort l.values.items
