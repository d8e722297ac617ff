use Rattle.std.proofs.Common.{◌≡◌, ◌++◌, map, take}
use Rattle.std.specs.Arc.{arc_value}
use Rattle.im_unit.proofs.widening.put_shared.Given as goal

-- the columns so far
abbrev pub invariant-loop-other : goal.invariant-loop-other
invariant-loop-other l = map arc_value l.columns.items ≡ map arc_value l.fn.columns.items ++ map arc_value (take l.other-index l.others)
