use Rattle.std.proofs.Common.{◌≡◌, length}
use Rattle.im_blocks.proofs.drawing.nulls_of.Given as goal

-- so many are there
abbrev pub invariant-loop : goal.invariant-loop
invariant-loop l = length l.nulls.items ≡ l.counter
