use Rattle.std.proofs.Common.{◌≡◌}
use Rattle.im_race.specs.inner.Answering as spec
use Rattle.im_race.proofs.sorting.no_replies.Given as goal

abbrev pub invariant-loop : goal.invariant-loop
invariant-loop l = l.replies.items ≡ spec.no_replies l.counter
