use Rattle.std.proofs.Common.{fold}
use Rattle.im_codepred.specs.inner.Tallying.{at_bits, with_value, IsLeft}
use Rattle.im_codepred.proofs.gathered.Gathered.take_word.Given as goal

abbrev pub invariant-loop-rest : goal.invariant-loop-rest
invariant-loop-rest l = IsLeft with_value l.values l.rest l.self (fold with_value l.fn.self (at_bits l.word l.values))

abbrev pub decreases-loop-rest : goal.decreases-loop-rest
decreases-loop-rest l = l.rest
