use Rattle.std.proofs.Common.{◌≡◌, ◌++◌, map, take}
use Rattle.std.specs.Arc.{arc_value}
use Rattle.im_unit.specs.inner.Kept.{row_across}
use Rattle.im_unit.proofs.reading.push_row.Given as goal

abbrev pub invariant-loop-column : goal.invariant-loop-column
invariant-loop-column l = l.values.items ≡ l.fn.values.items ++ row_across (map arc_value (take l.column-index l.columns)) l.spot
