use Rattle.std.proofs.Common.{All}
use Rattle.im_column.specs.Forms.{IsShort}
use Rattle.check_parts.proofs.values.values_of.Given as goal

abbrev pub invariant-loop-cell : goal.invariant-loop-cell
invariant-loop-cell l = All IsShort l.values.items
