use Rattle.std.proofs.Common.{ap, sym, ◌∙◌, ◌+◌, length, map}
use Rattle.im_history.specs.declared.entry.Entry.{Entry}
use Rattle.im_race.specs.inner.Answering.{no_replies}
use Rattle.im_race.proofs.BesideLemmas.{beside-all, no_replies-length, numbers-back, of-sessions, passes-free}
use Rattle.im_race.proofs.OutcomesLemmas.{length-replies}
use Rattle.im_turn.specs.Passes.{PassState}
use Rattle.im_values.specs.declared.limits.TheConstants.{SESSIONS}
use Rattle.im_race.proofs.racing.play_beside.Goals as goal

pub play_all-requires-clause-ready : goal.play_all-requires-clause-ready
play_all-requires-clause-ready g c κs within =
    let lineup = c.in_ok-store.ensures in lineup.ready

pub sort_outcomes-requires : goal.sort_outcomes-requires
sort_outcomes-requires g c =
    let lineup = c.in_ok-store.ensures in
    record {
      of_sessions = of-sessions c.args.options.area c.args.options.turns _ c.args.lines.now _
          c.in_ok-store.field-0.jobs.items c.in_ok-done.done.items lineup.ready
          c.in_ok-done.ensures;
    }

pub answers-requires-clause-count : goal.answers-requires-clause-count
answers-requires-clause-count g c =
    ap length (c.as_mut_slice.ensures.value ∙ c.in_ok-outcomes.ensures.replies)
    ∙ (length-replies c.in_ok-done.done.items (no_replies (SESSIONS + 1)) ∙ no_replies-length (SESSIONS + 1))

pub close-requires-clause-idle : goal.close-requires-clause-idle
close-requires-clause-idle g c = let lineup = c.in_ok-store.ensures in lineup.idle

pub close-requires-clause-none_joined : goal.close-requires-clause-none_joined
close-requires-clause-none_joined g c = let lineup = c.in_ok-store.ensures in lineup.none_joined

pub close-requires-clause-passes_store : goal.close-requires-clause-passes_store
close-requires-clause-passes_store g c =
    let lineup = c.in_ok-store.ensures in
    (passes-free c.args.options.area c.args.options.turns _ c.args.lines.now _ c.in_ok-store.field-0.jobs.items c.in_ok-done.done.items
    c.in_ok-outcomes.outcomes.passes.items lineup.ready c.in_ok-done.ensures c.in_ok-outcomes.ensures.passes).0

pub close-requires-clause-passes_idle : goal.close-requires-clause-passes_idle
close-requires-clause-passes_idle g c =
    let lineup = c.in_ok-store.ensures in
    (passes-free c.args.options.area c.args.options.turns _ c.args.lines.now _ c.in_ok-store.field-0.jobs.items c.in_ok-done.done.items
    c.in_ok-outcomes.outcomes.passes.items lineup.ready c.in_ok-done.ensures c.in_ok-outcomes.ensures.passes).1

pub close-requires-clause-numbers : goal.close-requires-clause-numbers
close-requires-clause-numbers g c =
    let lineup = c.in_ok-store.ensures in
    ap (map (λ (p : PassState Entry). p.who)) c.in_ok-outcomes.ensures.passes
    ∙ (numbers-back c.args.options.area c.args.options.turns _ c.args.lines.now _ c.in_ok-store.field-0.jobs.items c.in_ok-done.done.items lineup.ready
    c.in_ok-done.ensures
    ∙ sym (ap (λ (p : PassState Entry). p.gave) lineup.pass))

pub returns-clause-beside : goal.returns-clause-beside
returns-clause-beside g c =
    let lineup = c.in_ok-store.ensures in
    beside-all c.args.options.area c.args.options.turns c.args.options.workers
    c.in_ok-store.field-0.sessions c.args.sessions.items c.args.lines.now _ lineup.made
    c.in_ok-store.field-0.first c.in_ok-store.field-0.jobs.items c.in_ok-done.done.items c.in_ok-outcomes.outcomes.passes.items c.as_mut_slice.result.now _
    c.requires.names lineup.is_first lineup.jobs lineup.count c.in_ok-done.ensures c.in_ok-outcomes.ensures.whole lineup.pass c.in_ok-outcomes.ensures.passes
    c.close.ensures c.in_ok-outcomes.ensures.ends (c.as_mut_slice.ensures.value ∙ c.in_ok-outcomes.ensures.replies) c.in_ok-answers.ensures
