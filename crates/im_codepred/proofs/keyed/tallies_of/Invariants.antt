use Rattle.std.proofs.Common.{take}
use Rattle.im_codepred.specs.inner.Tallying.{ShowEach}
use Rattle.im_codepred.proofs.keyed.tallies_of.Given as goal

abbrev pub invariant-loop-group : goal.invariant-loop-group
invariant-loop-group l = ShowEach (take l.group-index l.groups) l.tallies.items
