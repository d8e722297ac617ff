use Rattle.std.proofs.Common.{All}
use Rattle.im_column.specs.Forms.{IsShort}
use Rattle.check_parts.proofs.values.put.Given as goal

abbrev pub invariant-loop : goal.invariant-loop
invariant-loop l = All IsShort l.values.items
