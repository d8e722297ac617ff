use Rattle.std.proofs.Common.{fold}
use Rattle.im_codepred.specs.inner.Tallying.{at_bits, one_more, IsLeft}
use Rattle.im_codepred.proofs.counts.count_word.Given as goal

abbrev pub invariant-loop-rest : goal.invariant-loop-rest
invariant-loop-rest l = IsLeft one_more l.codes l.rest l.counts (fold one_more l.fn.counts (at_bits l.word l.codes))

abbrev pub decreases-loop-rest : goal.decreases-loop-rest
decreases-loop-rest l = l.rest
