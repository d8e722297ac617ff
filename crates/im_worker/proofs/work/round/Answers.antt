use Rattle.std.proofs.Common.{le_refl}
use Rattle.im_worker.proofs.CountLemmas.{counted-counted, none-counted, on-ended}
use Rattle.im_worker.proofs.StandingLaws.{own-last}
use Rattle.im_worker.proofs.WorkLaws.{round-dropped, round-ended, round-idle, round-lacked, round-over}
use Rattle.im_worker.proofs.work.round.Goals as goal

pub end_build-requires-clause-own : goal.end_build-requires-clause-own
end_build-requires-clause-own g c =
    let new = g.H.Reach.known c.begin_next.new.reach in
    own-last new.limits new.log c.args.who c.args.held.now.items c.in-Ready.build.task c.in-Ready.ensures.lawful.legal c.in-Ready.ensures.begun.stands

pub returns-in-Ready-clause-round : goal.returns-in-Ready-clause-round
returns-in-Ready-clause-round g c =
    round-ended c.args.who c.args.sessions c.args.held.now.items c.args.tally.now c.note_build.new.self (g.H.Reach.known c.args.reach.now)
    (g.H.Reach.known c.begin_next.new.reach) (g.H.Reach.known c.end_build.new.reach) c.in-Ready.build c.end_build.result c.requires.speaks
    c.end_build.ensures.lawful c.note_build.ensures c.in-Ready.ensures.begun c.end_build.ensures.ended

pub returns-in-Ready-clause-ticks : goal.returns-in-Ready-clause-ticks
returns-in-Ready-clause-ticks g c =
    let mid = g.H.Reach.known c.begin_next.new.reach in
    let new = g.H.Reach.known c.end_build.new.reach in
    counted-counted c.args.who c.args.steps.now c.begin_next.new.steps c.begin_next.new.steps (g.H.Reach.known c.args.reach.now) mid new
    c.in-Ready.ensures.ticks
    (none-counted c.args.who c.begin_next.new.steps c.begin_next.new.steps mid new (on-ended mid new c.end_build.result c.end_build.ensures.ended)
    (le_refl c.begin_next.new.steps))

pub returns-then-left-sessions-clause-round : goal.returns-then-left-sessions-clause-round
returns-then-left-sessions-clause-round g c =
    round-over c.args.who c.args.sessions c.args.held.now.items c.in-Idle.place c.in-Idle.left (g.H.Reach.known c.args.reach.now)
    (g.H.Reach.known c.begin_next.new.reach) c.requires.speaks c.if-left-sessions.true c.in-Idle.ensures.begun

pub returns-else-left-sessions-clause-round : goal.returns-else-left-sessions-clause-round
returns-else-left-sessions-clause-round g c =
    round-idle c.args.who c.args.sessions c.args.held.now.items c.args.tally.now c.note_idle.new.self c.in-Idle.place c.in-Idle.left
    (g.H.Reach.known c.args.reach.now) (g.H.Reach.known c.begin_next.new.reach) c.requires.speaks c.if-left-sessions.false c.note_idle.ensures
    c.in-Idle.ensures.begun

pub returns-in-Lacks-clause-round : goal.returns-in-Lacks-clause-round
returns-in-Lacks-clause-round g c =
    round-lacked c.args.who c.args.sessions c.args.held.now.items c.args.tally.now c.note_lack.new.self (g.H.Reach.known c.args.reach.now)
    (g.H.Reach.known c.begin_next.new.reach) c.requires.speaks c.note_lack.ensures c.in-Lacks.ensures.begun

pub returns-in-Dropped-clause-round : goal.returns-in-Dropped-clause-round
returns-in-Dropped-clause-round g c =
    round-dropped c.args.who c.args.sessions c.args.held.now.items c.args.tally.now c.note_build-in-Dropped.new.self (g.H.Reach.known c.args.reach.now)
    (g.H.Reach.known c.begin_next.new.reach) c.requires.speaks c.note_build-in-Dropped.ensures c.in-Dropped.ensures.begun
