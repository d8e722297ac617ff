use Rattle.std.proofs.Common.{◌≡◌, replicate}
use Rattle.im_codes.specs.Dictionary.{lent}
use Rattle.im_column.proofs.repeated.of_few.Given as goal

-- so many are lent
abbrev pub invariant-loop : goal.invariant-loop
invariant-loop l = lent l.lent.items ≡ replicate l.counter l.value
