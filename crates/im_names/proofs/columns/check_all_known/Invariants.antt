use Rattle.im_names.specs.Lookups.{unknown}
use Rattle.im_names.proofs.FaultLemmas.{From, faults_of}
use Rattle.im_names.proofs.columns.check_all_known.Given as goal

abbrev pub invariant-loop-name : goal.invariant-loop-name
invariant-loop-name l = From (faults_of (unknown l.schema)) l.names l.name-index
