use Rattle.std.proofs.Common.{◌≡◌, ◌++◌, drop}
use Rattle.im_group.specs.Partials.{lent_rows}
use Rattle.im_group.proofs.partial.lend.Given as goal

abbrev pub invariant-loop-number : goal.invariant-loop-number
invariant-loop-number l = lent_rows l.lent.items ++ drop l.number-index l.rows ≡ l.rows
