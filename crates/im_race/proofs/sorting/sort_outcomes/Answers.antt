use Rattle.std.proofs.Common.{◌≡◌, ◌+◌, [], true}
use Rattle.std.proofs.lemmas.List.{map_push}
use Rattle.std.proofs.lemmas.List.Elements.{All-push}
use Rattle.std.proofs.lemmas.List.Sums.{fold_push}
use Rattle.im_race.specs.declared.job.Done.{Done}
use Rattle.im_race.specs.inner.Answering as spec
use Rattle.im_values.specs.declared.limits.TheConstants.{SESSIONS}
use Rattle.im_race.proofs.sorting.sort_outcomes.Goals as goal

pub loop-done-preserved : goal.loop-done-preserved
loop-done-preserved c =
    let done = c.in-Some.done in
    let so_far = c.loop-done.yielded in
    record {
      count = c.add.ensures.count;
      passes = cc (map_push (λ (d : Done). d.pass) so_far done, c.in_ok-add.ensures.passes, c.loop-done.invariant.passes);
      replies =
          cc (fold_push spec.replies_after (spec.no_replies (SESSIONS + 1)) so_far done, c.in_ok-add.ensures.replies, c.loop-done.invariant.replies);
      ends = cc (fold_push spec.ends_after [] so_far done, c.in_ok-add.ensures.ends, c.loop-done.invariant.ends);
      whole = All-push (λ (d : Done). spec.is_whole d.outcome ≡ true) so_far done c.loop-done.invariant.whole c.in_ok-add.ensures.whole;
    }
