use Rattle.std.proofs.Common.{drop}
use Rattle.im_codepred.specs.inner.Walk.{AreTaken}
use Rattle.im_codepred.proofs.found.found_among.Given as goal

abbrev pub invariant-loop-run : goal.invariant-loop-run
invariant-loop-run l = AreTaken l.dict l.runs l.mask (drop l.run-index l.run-items) l.begin l.found
