use Rattle.im_names.specs.inner.TargetNumbers.{numbers_of}
use Rattle.im_names.proofs.TargetLemmas.{Rest}
use Rattle.im_names.proofs.rows.check_tuple.Given as goal

-- what is still to be checked has the fault of the whole
abbrev pub invariant-loop-i : goal.invariant-loop-i
invariant-loop-i l = Rest l.schema (numbers_of l.targets) l.tuple l.i
