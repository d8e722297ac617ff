use Rattle.std.proofs.Common.{take}
use Rattle.im_codepred.specs.inner.Ranged.{LieWithin}
use Rattle.im_codepred.proofs.ranged.block_within.Given as goal

abbrev pub invariant-loop-code : goal.invariant-loop-code
invariant-loop-code l = LieWithin l.low l.end (take l.code-index l.codes) l.part.count l.part.sum
