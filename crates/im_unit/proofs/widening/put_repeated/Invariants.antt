use Rattle.std.proofs.Common.{◌≡◌, ◌++◌, map, replicate, take}
use Rattle.std.specs.Arc.{arc_value}
use Rattle.im_unit.proofs.widening.put_repeated.Given as goal

-- the columns so far
abbrev pub invariant-loop-value : goal.invariant-loop-value
invariant-loop-value l = map arc_value l.columns.items ≡ map arc_value l.fn.columns.items ++ map (replicate l.count) (take l.value-index l.values)
