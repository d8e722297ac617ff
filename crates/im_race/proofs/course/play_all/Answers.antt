use Rattle.std.proofs.Common.{◌∙◌, List, ap, drop, length, reverse, rules, subst, sym}
use Rattle.std.proofs.lemmas.Result.{IfOk-weaker}
use Rattle.std.specs.Prelude.{filter_map}
use denote.Exit.{no}
use denote.Param.Send.{sendable, arg_sync, param_sync, shr_sync}
use Rattle.std.proofs.Crossing.{crosses}
use Rattle.im_race.proofs.Crossing.{captured_sync, course_sync, outside_sync, post_send, store_sync}
use Rattle.im_race.specs.declared.job.Post.{Post}
use Rattle.im_race.specs.inner.Doing.{AreDone, IsReady}
use Rattle.im_race.proofs.DoneLemmas.{all-done, ready-at, served-at, written-back}
use Rattle.im_race.proofs.course.play_all.Goals as goal

pub for_each_mut-requires-send-T : goal.for_each_mut-requires-send-T
for_each_mut-requires-send-T g c κs within = search (sendable, crosses, post_send) depth 60 fits 10000

pub for_each_mut-requires-sync-F : goal.for_each_mut-requires-sync-F
for_each_mut-requires-sync-F g c κs within =
    param_sync 2 _ (arg_sync _ no _
    (captured_sync _ _ _ _ (shr_sync _ _ _ (outside_sync _ _ _ c.type_bounds.sync-R c.type_bounds.sync-G)) (shr_sync _ _ _ store_sync)
    (shr_sync _ _ _ (course_sync _))))

pub for_each_mut-requires-clause-accepts : goal.for_each_mut-requires-clause-accepts
for_each_mut-requires-clause-accepts g c κs within = λ at post less is. (
  ready-at (IsReady c.args.course.now.options.area c.args.store.now.id) c.args.jobs.items c.as_mut_slice.result.now
      (c.as_mut_slice.ensures.value ∙ c.in_ok-posts.ensures) c.requires.ready at post.now less is,
  (c.requires.known, (c.requires.names, (param_sync 0 _ (arg_sync _ no _ c.type_bounds.sync-R), param_sync 1 _ (arg_sync _ no _ c.type_bounds.sync-G)))),
)

pub returns : goal.returns
returns g c =
    let new = c.for_each_mut.new.s in
    let back = written-back new (drop (length new) c.in_ok-posts.posts.items) c.in_ok-posts.posts.len
    (sym (c.for_each_mut.auto.s ∙ c.as_mut_slice.ensures.len)) in
    let done = all-done c.args.course.now.options.area c.args.course.now.options.turns c.args.course.now.sessions c.args.course.now.lines.now
    c.args.jobs.items c.as_mut_slice.result.now new (c.as_mut_slice.ensures.value ∙ c.in_ok-posts.ensures) c.for_each_mut.auto.s
    (λ at other less.
    let served = (c.for_each_mut.ensures at other less).1 in
    served-at c.args.course.now.options.area c.args.course.now.options.turns c.args.course.now.sessions c.args.course.now.lines.now _ _
    served.argument.now served.after_call.now served.argument_is served.left (search (rules, served.call))) in
    IfOk-weaker c.done_at.result _ _
    (λ all is.
    subst (AreDone c.args.course.now.options.area c.args.course.now.options.turns c.args.course.now.sessions c.args.course.now.lines.now
    c.args.jobs.items) (sym (is ∙ ap (λ (posts : List Post). filter_map (λ (post : Post). post.done) (reverse posts)) back)) done)
    c.done_at.ensures
