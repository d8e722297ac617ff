use Rattle.im_names.specs.Rows.{count_fault}
use Rattle.im_names.proofs.FaultLemmas.{From, faults_of}
use Rattle.im_names.proofs.rows.check_counts.Given as goal

abbrev pub invariant-loop-tuple : goal.invariant-loop-tuple
invariant-loop-tuple l = From (faults_of (count_fault l.wanted)) l.tuples l.tuple-index
