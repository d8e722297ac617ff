use Rattle.std.proofs.Common.{◌≡◌, ◌++◌, take}
use Rattle.im_codes.specs.Dictionary.{lent, whole}
use Rattle.im_column.proofs.numbers.put_numbers.Given as goal

abbrev pub invariant-loop-i : goal.invariant-loop-i
invariant-loop-i l = whole l.numbers.items ≡ whole l.fn.numbers.items ++ lent (take l.i l.values)
