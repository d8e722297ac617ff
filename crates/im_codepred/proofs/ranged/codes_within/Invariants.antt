use Rattle.std.proofs.Common.{take, ◌*◌}
use Rattle.im_codepred.specs.inner.Ranged.{LieWithin}
use Rattle.im_codepred.proofs.ranged.codes_within.Given as goal

abbrev pub invariant-loop-block : goal.invariant-loop-block
invariant-loop-block l = LieWithin l.low l.end (take (l.block * 512) l.bits.codes) l.found.count l.found.sum
