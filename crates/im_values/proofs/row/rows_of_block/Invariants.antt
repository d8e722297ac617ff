use Rattle.std.proofs.Common.{◌≡◌}
use Rattle.std.specs.Arc.{arc_value}
use Rattle.im_values.specs.Stretches.{cut}
use Rattle.im_values.proofs.row.rows_of_block.Given as goal

-- so many rows are cut, of the block of all values
abbrev pub invariant-loop-at : goal.invariant-loop-at
invariant-loop-at l = (l.rows.items ≡ cut l.at l.width l.fn.values.items) × (arc_value l.block ≡ l.fn.values)
