use Rattle.std.proofs.Common.{◌≡◌, [], get_or, map}
use Rattle.std.specs.Arc.{arc_value}
use Rattle.std.specs.List.{range_with_len}
use Rattle.im_column.specs.Picks.{values_picked}
use Rattle.im_unit.specs.Holding.{values_in}
use Rattle.im_unit.proofs.rebuilding.columns_again.Given as goal

-- the columns so far
abbrev pub invariant-loop-column : goal.invariant-loop-column
invariant-loop-column l =
    map arc_value l.columns.items ≡
    map (λ column. values_picked (get_or (map arc_value l.old) column []) (values_in column l.fresh) l.places) (range_with_len 0 l.column)
