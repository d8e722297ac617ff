use Rattle.std.proofs.Common.{Bool, arith, filter, not, sym, subst}
use Rattle.std.specs.Prelude.{slice_set}
use Rattle.im_session.specs.declared.playing.Use.{Use}
use Rattle.im_session.specs.declared.playing.Use.TheVariants.{Fetch, Close}
use Rattle.im_session.specs.Reads.{IsCounted, Left, Next, Unread}
use Rattle.im_session.specs.Cursors.{query_of}
use Rattle.im_session.specs.Sessions.{state_of}
use Rattle.im_session.specs.inner.Running.{IsRun, is_number, plan_over, reading_by}
use Rattle.im_session.specs.inner.Cursors.{fetch_outcome}
use Rattle.im_session.specs.inner.Rests.{IsRest}
use Rattle.im_session.proofs.KeptLemmas.{at-place, no-place}
use Rattle.im_session.proofs.SessionLemmas.{counted-kept, is-closed, is-kept, is-open, run-closing, run-no_fetch, run-none, run-step}
use Rattle.im_session.proofs.playing.on_cursor.Goals as goal
use Rattle.im_statements.specs.Cursors.{fetch_query}

pub returns-in_default-clause-run : goal.returns-in_default-clause-run
returns-in_default-clause-run g c =
    run-none c.args.context.now.who c.args.kept.now.items (g.H.Reach.known c.args.reach.now) c.requires.agrees (g.H.Reach.known c.args.reach.now)
    c.unknown.result c.args.usage c.args.number c.args.look.now c.requires.look
    (no-place c.args.number _ c.args.kept.now.items _ c.as_slice.ensures.value c.place_of.ensures c.in_default.is) c.unknown.ensures

pub step-requires-clause-agrees : goal.step-requires-clause-agrees
step-requires-clause-agrees g c =
    is-kept c.args.context.now.who c.args.kept.now.items (g.H.Reach.known c.args.reach.now) c.requires.agrees c.args.number c.in-Some.at
    c.index_mut.result.now
    (at-place c.args.number _ c.args.kept.now.items _ c.in-Some.at c.as_slice.ensures.value c.place_of.ensures c.in-Some.is)
    c.index_mut.ensures.value

pub returns-in-Step-clause-run : goal.returns-in-Step-clause-run
returns-in-Step-clause-run g c =
    subst (λ (usage : Use). IsRun c.args.context.now.who
    (plan_over usage (state_of c.args.kept.now.items) (g.H.Reach.known c.args.reach.now).log c.args.number) c.args.kept.now.items
    (g.H.Reach.known c.args.reach.now) c.step.result.reply (slice_set c.args.kept.now.items c.in-Some.at c.step.new.kept)
    (g.H.Reach.known c.step.new.reach)) (sym c.in-Step.is)
    (run-step c.args.context.now.who c.args.kept.now.items (g.H.Reach.known c.args.reach.now) c.requires.agrees (g.H.Reach.known c.step.new.reach)
    c.step.result.reply c.args.number c.in-Some.at c.index_mut.result.now c.step.new.kept c.step.result.served
    (at-place c.args.number _ c.args.kept.now.items _ c.in-Some.at c.as_slice.ensures.value c.place_of.ensures c.in-Some.is)
    c.index_mut.ensures.value c.step.ensures.rest c.step.ensures.kept c.step.ensures.agrees)

pub fetch-fetched-requires-clause-agrees : goal.fetch-fetched-requires-clause-agrees
fetch-fetched-requires-clause-agrees g c κs within =
    is-kept c.args.context.now.who c.args.kept.now.items (g.H.Reach.known c.args.reach.now) c.requires.agrees c.args.number c.in-Some.at
    c.index.result.now
    (at-place c.args.number _ c.args.kept.now.items _ c.in-Some.at c.as_slice.ensures.value c.place_of.ensures c.in-Some.is)
    c.index.ensures

pub returns-then-not-fetched-clause-run : goal.returns-then-not-fetched-clause-run
returns-then-not-fetched-clause-run g c =
    subst (λ (usage : Use). IsRun c.args.context.now.who
    (plan_over usage (state_of c.args.kept.now.items) (g.H.Reach.known c.args.reach.now).log c.args.number) c.args.kept.now.items
    (g.H.Reach.known c.args.reach.now) c.fetch-fetched.result.reply c.args.kept.now.items (g.H.Reach.known c.fetch-fetched.new.reach)) (sym c.in-Fetch.is)
    (run-no_fetch c.args.context.now.who c.args.kept.now.items (g.H.Reach.known c.args.reach.now) c.requires.agrees
    (g.H.Reach.known c.fetch-fetched.new.reach) c.fetch-fetched.result.reply c.args.number c.in-Some.at c.index.result.now
    (at-place c.args.number _ c.args.kept.now.items _ c.in-Some.at c.as_slice.ensures.value c.place_of.ensures c.in-Some.is) c.index.ensures
    (subst (λ (closed : Bool). IsRest c.args.context.now.who 0 (g.H.Reach.known c.args.reach.now) (fetch_query (g.H.Reach.known c.args.reach.now).log
    (query_of c.index.result.now)) (fetch_outcome c.index.result.now.number c.fetch-fetched.result.reply closed)
    (g.H.Reach.known c.fetch-fetched.new.reach)) (is-open c.fetch-fetched.result.closed c.if-not-fetched.true) c.fetch-fetched.ensures.rest))

pub close-reply-requires-clause-agrees : goal.close-reply-requires-clause-agrees
close-reply-requires-clause-agrees g c =
    is-kept c.args.context.now.who c.args.kept.now.items (g.H.Reach.known c.args.reach.now) c.requires.agrees c.args.number c.in-Some.at
    c.index-in-Close.result.now
    (at-place c.args.number _ c.args.kept.now.items _ c.in-Some.at c.as_slice.ensures.value c.place_of.ensures c.in-Some.is)
    c.index-in-Close.ensures

pub returns-else-not-fetched-clause-run : goal.returns-else-not-fetched-clause-run
returns-else-not-fetched-clause-run g c =
    rw c.forget.ensures
    (subst (λ (usage : Use). IsRun c.args.context.now.who
    (plan_over usage (state_of c.args.kept.now.items) (g.H.Reach.known c.args.reach.now).log c.args.number) c.args.kept.now.items
    (g.H.Reach.known c.args.reach.now) c.fetch-fetched.result.reply
    (filter (λ kept. not (is_number c.args.number kept)) c.args.kept.now.items)
    (g.H.Reach.known c.fetch-fetched.new.reach)) (sym c.in-Fetch.is)
    (run-closing c.args.context.now.who c.args.kept.now.items (g.H.Reach.known c.args.reach.now) c.requires.agrees
    (g.H.Reach.known c.fetch-fetched.new.reach) c.fetch-fetched.result.reply Fetch c.args.number c.in-Some.at c.index.result.now
    (at-place c.args.number _ c.args.kept.now.items _ c.in-Some.at c.as_slice.ensures.value c.place_of.ensures c.in-Some.is) c.index.ensures
    (subst (λ (closed : Bool). IsRest c.args.context.now.who 0 (g.H.Reach.known c.args.reach.now) (fetch_query (g.H.Reach.known c.args.reach.now).log
    (query_of c.index.result.now)) (fetch_outcome c.index.result.now.number c.fetch-fetched.result.reply closed)
    (g.H.Reach.known c.fetch-fetched.new.reach)) (is-closed c.fetch-fetched.result.closed c.if-not-fetched.false) c.fetch-fetched.ensures.rest)))

pub returns-in-Close-clause-run : goal.returns-in-Close-clause-run
returns-in-Close-clause-run g c =
    rw c.forget-in-Close.ensures
    (subst (λ (usage : Use). IsRun c.args.context.now.who
    (plan_over usage (state_of c.args.kept.now.items) (g.H.Reach.known c.args.reach.now).log c.args.number) c.args.kept.now.items
    (g.H.Reach.known c.args.reach.now) c.close-reply.result
    (filter (λ kept. not (is_number c.args.number kept)) c.args.kept.now.items)
    (g.H.Reach.known c.close-reply.new.reach)) (sym c.in-Close.is)
    (run-closing c.args.context.now.who c.args.kept.now.items (g.H.Reach.known c.args.reach.now) c.requires.agrees
    (g.H.Reach.known c.close-reply.new.reach) c.close-reply.result Close c.args.number c.in-Some.at c.index-in-Close.result.now
    (at-place c.args.number _ c.args.kept.now.items _ c.in-Some.at c.as_slice.ensures.value c.place_of.ensures c.in-Some.is) c.index-in-Close.ensures
    c.close-reply.ensures))

pub returns-in-Step-clause-ticks : goal.returns-in-Step-clause-ticks
returns-in-Step-clause-ticks g c =
    subst (λ (usage : Use). IsCounted (reading_by usage c.args.number) (state_of c.args.kept.now.items) c.args.context.now.who c.step.result.reply
    c.args.steps.now c.step.new.steps (g.H.Reach.known c.args.reach.now).log (g.H.Reach.known c.step.new.reach).log) (sym c.in-Step.is)
    (counted-kept Next c.args.context.now.who c.args.kept.now.items c.args.number c.in-Some.at c.index_mut.result.now c.step.result.reply
    c.args.steps.now c.step.new.steps (g.H.Reach.known c.args.reach.now).log (g.H.Reach.known c.step.new.reach).log
    (at-place c.args.number _ c.args.kept.now.items _ c.in-Some.at c.as_slice.ensures.value c.place_of.ensures c.in-Some.is) c.index_mut.ensures.value
    c.step.ensures.ticks)

pub returns-then-not-fetched-clause-ticks : goal.returns-then-not-fetched-clause-ticks
returns-then-not-fetched-clause-ticks g c =
    subst (λ (usage : Use). IsCounted (reading_by usage c.args.number) (state_of c.args.kept.now.items) c.args.context.now.who c.fetch-fetched.result.reply
    c.args.steps.now c.fetch-fetched.new.steps (g.H.Reach.known c.args.reach.now).log (g.H.Reach.known c.fetch-fetched.new.reach).log) (sym c.in-Fetch.is)
    (counted-kept Left c.args.context.now.who c.args.kept.now.items c.args.number c.in-Some.at c.index.result.now c.fetch-fetched.result.reply
    c.args.steps.now c.fetch-fetched.new.steps (g.H.Reach.known c.args.reach.now).log (g.H.Reach.known c.fetch-fetched.new.reach).log
    (at-place c.args.number _ c.args.kept.now.items _ c.in-Some.at c.as_slice.ensures.value c.place_of.ensures c.in-Some.is) c.index.ensures
    c.fetch-fetched.ensures.ticks)

pub returns-else-not-fetched-clause-ticks : goal.returns-else-not-fetched-clause-ticks
returns-else-not-fetched-clause-ticks g c =
    subst (λ (usage : Use). IsCounted (reading_by usage c.args.number) (state_of c.args.kept.now.items) c.args.context.now.who c.fetch-fetched.result.reply
    c.args.steps.now c.fetch-fetched.new.steps (g.H.Reach.known c.args.reach.now).log (g.H.Reach.known c.fetch-fetched.new.reach).log) (sym c.in-Fetch.is)
    (counted-kept Left c.args.context.now.who c.args.kept.now.items c.args.number c.in-Some.at c.index.result.now c.fetch-fetched.result.reply
    c.args.steps.now c.fetch-fetched.new.steps (g.H.Reach.known c.args.reach.now).log (g.H.Reach.known c.fetch-fetched.new.reach).log
    (at-place c.args.number _ c.args.kept.now.items _ c.in-Some.at c.as_slice.ensures.value c.place_of.ensures c.in-Some.is) c.index.ensures
    c.fetch-fetched.ensures.ticks)

pub returns-in-Close-clause-ticks : goal.returns-in-Close-clause-ticks
returns-in-Close-clause-ticks g c = Unread (omega arith)

pub returns-in_default-clause-ticks : goal.returns-in_default-clause-ticks
returns-in_default-clause-ticks g c = Unread (omega arith)
