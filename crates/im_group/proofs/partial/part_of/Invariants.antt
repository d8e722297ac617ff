use Rattle.std.proofs.Common.{◌≡◌, take}
use Rattle.im_group.specs.Partials.{lent_rows, partial}
use Rattle.im_group.proofs.partial.part_of.Given as goal

-- the part of the rows so far
abbrev pub invariant-loop-number : goal.invariant-loop-number
invariant-loop-number l = l.partial ≡ partial l.bound (lent_rows (take l.number-index l.rows))
