use Rattle.std.proofs.Common.{◌≡◌, ◌+◌, [], true, All, length, map}
use Rattle.std.specs.Prelude.{fold}
use Rattle.im_race.specs.declared.job.Done.{Done}
use Rattle.im_race.specs.inner.Answering as spec
use Rattle.im_values.specs.declared.limits.TheConstants.{SESSIONS}
use Rattle.im_race.proofs.sorting.sort_outcomes.Given as goal

abbrev pub invariant-loop-done : goal.invariant-loop-done
invariant-loop-done l = record {
  count : length l.outcomes.replies.items ≡ SESSIONS + 1;
  passes : l.outcomes.passes.items ≡ map (λ (done : Done). done.pass) l.yielded;
  replies : l.outcomes.replies.items ≡ fold spec.replies_after (spec.no_replies (SESSIONS + 1)) l.yielded;
  ends : l.outcomes.ends.items ≡ fold spec.ends_after [] l.yielded;
  whole : All (λ (done : Done). spec.is_whole done.outcome ≡ true) l.yielded;
}
