use Rattle.std.proofs.Common.{map}
use Rattle.im_names.specs.Queries.{marked_fault}
use Rattle.im_names.proofs.FaultLemmas.{From, faults_of}
use Rattle.im_names.proofs.queries.check_lones.Given as goal

abbrev pub invariant-loop-part : goal.invariant-loop-part
invariant-loop-part g l = From (λ i parts. faults_of (marked_fault l.schema l.marks) i (map g.T.HasItem.own_item parts)) l.parts l.part-index
