use Rattle.std.proofs.Common.{◌≡◌, take}
use Rattle.im_syntax.specs.Tuples.{written}
use Rattle.im_syntax.proofs.even.listed.Given as goal

abbrev pub invariant-loop-at : goal.invariant-loop-at
invariant-loop-at l = l.tuples.items ≡ written (take l.at l.rows)
