use Rattle.std.proofs.Common.{ℕ, ◌+◌, ◌*◌, List, length, ap, ◌∙◌, le_refl}
use Rattle.im_replies.specs.declared.task.Built.{Built}
use Rattle.im_replies.specs.declared.task.Ending.{Ending}
use Rattle.im_statements.specs.Background.{built_of}
use Rattle.im_worker.specs.Background.{Ready}
use Rattle.im_worker.proofs.CountLemmas.{counted-counted, none-counted, on-ended}
use Rattle.im_worker.proofs.RunLemmas.{round-dropped, round-goes, round-idle, round-lacks, round-lacks_here}
use Rattle.im_worker.proofs.StandingLaws.{own-last}
use Rattle.im_worker.proofs.running.round.Goals as goal

-- two entries for each of them
abbrev entries : List (Built × Ending) → ℕ
entries ran = 2 * length ran

pub returns-then-is_err-clause-turn : goal.returns-then-is_err-clause-turn
returns-then-is_err-clause-turn g c =
    rw c.out_of_memory.ensures
    (round-lacks_here c.args.who c.entries_of-entries.result c.args.held.now.items c.args.ran.now.items (g.H.Reach.known c.args.reach.now)
    (c.entries_of-entries.ensures ∙ ap entries c.as_slice.ensures.value) c.requires.stands)

pub end_build-ending-requires-clause-own : goal.end_build-ending-requires-clause-own
end_build-ending-requires-clause-own g c =
    let new = g.H.Reach.known c.begin_next.new.reach in
    own-last new.limits new.log c.args.who c.args.held.now.items c.in-Ready.build.task c.in-Ready.ensures.lawful.legal c.in-Ready.ensures.begun.stands

pub returns-in-Ready-clause-turn : goal.returns-in-Ready-clause-turn
returns-in-Ready-clause-turn g c =
    rw (c.push_reserved.ensures.items, c.reserve.ensures.items, c.built_of-built.ensures ∙ ap (λ (r : Ready). built_of r.task) c.build.view_is)
    (round-goes c.args.who c.args.held.now.items c.args.ran.now.items (g.H.Reach.known c.args.reach.now) (g.H.Reach.known c.begin_next.new.reach)
    (g.H.Reach.known c.end_build-ending.new.reach) c.in-Ready.build c.end_build-ending.result c.requires.speaks c.end_build-ending.ensures.lawful
    c.in-Ready.ensures.begun c.end_build-ending.ensures.ended)

pub returns-in-Ready-clause-ticks : goal.returns-in-Ready-clause-ticks
returns-in-Ready-clause-ticks g c =
    let mid = g.H.Reach.known c.begin_next.new.reach in
    let new = g.H.Reach.known c.end_build-ending.new.reach in
    counted-counted c.args.who c.args.steps.now c.begin_next.new.steps c.begin_next.new.steps (g.H.Reach.known c.args.reach.now) mid new
    c.in-Ready.ensures.ticks
    (none-counted c.args.who c.begin_next.new.steps c.begin_next.new.steps mid new (on-ended mid new c.end_build-ending.result c.end_build-ending.ensures.ended)
    (le_refl c.begin_next.new.steps))

pub returns-in-Idle-clause-turn : goal.returns-in-Idle-clause-turn
returns-in-Idle-clause-turn g c =
    rw (c.plain.ensures, c.of.ensures ∙ (ap (λ all. all.items) c.replace-all.ensures.value ∙ c.reserve.ensures.items))
    (round-idle c.args.who c.args.held.now.items c.args.ran.now.items (g.H.Reach.known c.args.reach.now) (g.H.Reach.known c.begin_next.new.reach)
    c.in-Idle.ensures.begun)

pub returns-in-Lacks-clause-turn : goal.returns-in-Lacks-clause-turn
returns-in-Lacks-clause-turn g c =
    rw c.out_of_memory-in-Lacks.ensures
    (round-lacks c.args.who c.entries_of-entries.result c.args.held.now.items c.args.ran.now.items (g.H.Reach.known c.args.reach.now)
    (g.H.Reach.known c.begin_next.new.reach) (c.entries_of-entries.ensures ∙ ap entries c.as_slice.ensures.value) c.in-Lacks.ensures.begun)

pub returns-in-Dropped-clause-turn : goal.returns-in-Dropped-clause-turn
returns-in-Dropped-clause-turn g c =
    rw c.out_of_memory-in-Dropped.ensures
    (round-dropped c.args.who (c.entries_of-entries.result + 1) c.args.held.now.items c.args.ran.now.items (g.H.Reach.known c.args.reach.now)
    (g.H.Reach.known c.begin_next.new.reach)
    (ap (λ (n : ℕ). n + 1) (c.entries_of-entries.ensures ∙ ap entries c.as_slice.ensures.value))
    c.in-Dropped.ensures.lawful c.in-Dropped.ensures.begun)
