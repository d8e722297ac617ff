use Rattle.std.proofs.Common.{◌≡◌, replicate}
use Rattle.im_codepred.specs.inner.Tallying.{no_totals}
use Rattle.im_codepred.proofs.keyed.no_groups.Given as goal

abbrev pub invariant-loop : goal.invariant-loop
invariant-loop l = l.groups.items ≡ replicate l.counter no_totals
