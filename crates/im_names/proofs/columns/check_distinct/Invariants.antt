use Rattle.im_names.specs.Lookups.{repeated}
use Rattle.im_names.proofs.FaultLemmas.{From, placed}
use Rattle.im_names.proofs.columns.check_distinct.Given as goal

abbrev pub invariant-loop-i : goal.invariant-loop-i
invariant-loop-i g l = From (placed repeated g.T.Named.named l.listed) l.listed l.i
