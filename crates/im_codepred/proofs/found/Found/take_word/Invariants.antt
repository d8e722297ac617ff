use Rattle.std.proofs.Common.{fold}
use Rattle.im_codepred.specs.inner.Tallying.{at_bits, taken, IsLeft}
use Rattle.im_codepred.proofs.found.Found.take_word.Given as goal

abbrev pub invariant-loop-rest : goal.invariant-loop-rest
invariant-loop-rest l = IsLeft (taken l.numbers) l.codes l.rest l.self (fold (taken l.numbers) l.fn.self (at_bits l.word l.codes))

abbrev pub decreases-loop-rest : goal.decreases-loop-rest
decreases-loop-rest l = l.rest
