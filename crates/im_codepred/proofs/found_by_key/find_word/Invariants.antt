use Rattle.std.proofs.Common.{fold, zip}
use Rattle.im_codepred.specs.inner.Tallying.{at_bits, with_code, IsLeft}
use Rattle.im_codepred.proofs.found_by_key.find_word.Given as goal

abbrev pub invariant-loop-rest : goal.invariant-loop-rest
invariant-loop-rest l = IsLeft (with_code l.ends l.numbers) (zip l.keys l.codes) l.rest l.founds (fold (with_code l.ends l.numbers) l.fn.founds (at_bits l.word (zip l.keys l.codes)))

abbrev pub decreases-loop-rest : goal.decreases-loop-rest
decreases-loop-rest l = l.rest
