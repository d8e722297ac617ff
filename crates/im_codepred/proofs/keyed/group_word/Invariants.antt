use Rattle.std.proofs.Common.{fold}
use Rattle.im_codes.specs.Dictionary.{lent}
use Rattle.im_codepred.specs.inner.Tallying.{at_bits, keyed, with_pair, IsLeft}
use Rattle.im_codepred.proofs.keyed.group_word.Given as goal

abbrev pub invariant-loop-rest : goal.invariant-loop-rest
invariant-loop-rest l = IsLeft with_pair (keyed l.keys (lent l.values)) l.rest l.groups (fold with_pair l.fn.groups (at_bits l.word (keyed l.keys (lent l.values))))

abbrev pub decreases-loop-rest : goal.decreases-loop-rest
decreases-loop-rest l = l.rest
