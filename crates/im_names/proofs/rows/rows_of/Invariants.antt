use Rattle.std.proofs.Common.{◌≡◌, ◌*◌, length, map, take}
use Rattle.im_values.specs.Stretches.{cut}
use Rattle.im_names.specs.Rows.{row_of, tuple_fault}
use Rattle.im_names.specs.inner.TargetNumbers.{numbers_of}
use Rattle.im_names.proofs.FaultLemmas.{From, faults_of}
use Rattle.im_names.proofs.rows.rows_of.Given as goal

-- the tuples so far have no fault, and the block is that of their rows
abbrev pub invariant-loop-tuple : goal.invariant-loop-tuple
invariant-loop-tuple l =
    From (faults_of (tuple_fault l.table.schema (numbers_of l.targets))) l.tuples l.tuple-index
    × (cut l.tuple-index l.width l.values.items ≡ map (row_of l.width l.defaults (numbers_of l.targets)) (take l.tuple-index l.tuples))
    × (length l.values.items ≡ l.tuple-index * l.width)
