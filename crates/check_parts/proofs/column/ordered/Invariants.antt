use Rattle.std.proofs.Common.{All}
use Rattle.im_column.specs.Forms.{IsShort}
use Rattle.check_parts.proofs.column.ordered.Given as goal

abbrev pub invariant-loop-place : goal.invariant-loop-place
invariant-loop-place l = All IsShort l.values.items
