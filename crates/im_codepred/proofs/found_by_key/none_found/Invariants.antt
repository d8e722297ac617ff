use Rattle.std.proofs.Common.{◌≡◌, replicate}
use Rattle.im_codepred.specs.inner.Tallying.{nothing}
use Rattle.im_codepred.proofs.found_by_key.none_found.Given as goal

abbrev pub invariant-loop : goal.invariant-loop
invariant-loop l = l.founds.items ≡ replicate l.counter nothing
