use Rattle.std.proofs.Common.{◌≡◌, map, take}
use Rattle.im_names.specs.Rows.{set_fault, set_of}
use Rattle.im_names.proofs.FaultLemmas.{From, faults_of}
use Rattle.im_names.proofs.rows.bind_sets.Given as goal

abbrev pub invariant-loop-name : goal.invariant-loop-name
invariant-loop-name l =
    From (faults_of (set_fault l.schema)) l.sets l.name-index
    × (l.bound.items ≡ map (set_of l.schema) (take l.name-index l.sets))
