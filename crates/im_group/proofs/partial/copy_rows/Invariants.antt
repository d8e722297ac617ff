use Rattle.std.proofs.Common.{◌≡◌, ◌++◌, drop}
use Rattle.im_group.proofs.partial.copy_rows.Given as goal

abbrev pub invariant-loop-number : goal.invariant-loop-number
invariant-loop-number l = l.copies.items ++ drop l.number-index l.rows ≡ l.rows
