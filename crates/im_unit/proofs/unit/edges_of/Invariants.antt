use Rattle.std.proofs.Common.{◌≡◌, map, take}
use Rattle.std.specs.Arc.{arc_value}
use Rattle.im_index.specs.Bounds.{bounds_of}
use Rattle.im_unit.proofs.unit.edges_of.Given as goal

abbrev pub invariant-loop-column : goal.invariant-loop-column
invariant-loop-column l = l.edges.items ≡ map bounds_of (map arc_value (take l.column-index l.columns))
