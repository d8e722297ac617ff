use Rattle.std.proofs.Common.{◌≡◌, map}
use Rattle.std.specs.Arc.{arc_value}
use Rattle.std.specs.List.{range_with_len}
use Rattle.im_unit.specs.Holding.{values_in}
use Rattle.im_unit.specs.inner.Kept.{lent_wide}
use Rattle.im_unit.proofs.building.columns_of.Given as goal

abbrev pub invariant-loop-column : goal.invariant-loop-column
invariant-loop-column l = map arc_value l.columns.items ≡ map (λ column. values_in column (lent_wide l.defaults l.rows)) (range_with_len 0 l.column)
