use Rattle.std.proofs.Common.{◌≡◌, le_refl, refl, arith}
use Rattle.im_worker.proofs.CountLemmas.{counted-counted, none-counted, on-same}
use Rattle.im_worker.proofs.WorkLaws.{working-next, working-none, working-over, working-spent}
use Rattle.im_worker.proofs.work.job.Goals as goal

pub loop-tally-init : goal.loop-tally-init
loop-tally-init g c =
    let old = g.H.Reach.known c.args.reach.now in
    record {
      working = working-none c.args.who c.args.turns c.args.sessions c.args.held.now.items old _ refl c.requires.stands;
      ticks = none-counted c.args.who c.args.steps.now c.args.steps.now old old (on-same old.log) (le_refl c.args.steps.now);
    }

pub loop-tally-preserved : goal.loop-tally-preserved
loop-tally-preserved g c =
    let old = g.H.Reach.known c.args.reach.now in
    let mid = g.H.Reach.known c.loop-tally.reach in
    let new = g.H.Reach.known c.round.new.reach in
    record {
      working = working-next c.args.who c.args.turns c.args.sessions c.args.held.now.items old mid new c.loop-tally.tally c.round.new.tally
          c.loop-tally-test.true c.loop-tally.invariant.working c.in_default.ensures.round;
      ticks = counted-counted c.args.who c.args.steps.now c.loop-tally.steps c.round.new.steps old mid new c.loop-tally.invariant.ticks
          c.in_default.ensures.ticks;
    }

pub returns-in-Some-clause-ended : goal.returns-in-Some-clause-ended
returns-in-Some-clause-ended g c =
    working-over c.args.who c.args.turns c.args.sessions c.args.held.now.items (g.H.Reach.known c.args.reach.now) (g.H.Reach.known c.loop-tally.reach)
    (g.H.Reach.known c.round.new.reach) c.loop-tally.tally c.in-Some.place c.loop-tally-test.true c.loop-tally.invariant.working c.in-Some.ensures.round

pub returns-in-Some-clause-ticks : goal.returns-in-Some-clause-ticks
returns-in-Some-clause-ticks g c =
    counted-counted c.args.who c.args.steps.now c.loop-tally.steps c.round.new.steps (g.H.Reach.known c.args.reach.now) (g.H.Reach.known c.loop-tally.reach)
    (g.H.Reach.known c.round.new.reach) c.loop-tally.invariant.ticks c.in-Some.ensures.ticks

pub returns-clause-ended : goal.returns-clause-ended
returns-clause-ended g c =
    let done = c.loop-tally-test.false in
    let none : c.loop-tally.tally.left ≡ 0 = omega (arith, done) in
    working-spent c.args.who c.args.turns c.args.sessions c.args.held.now.items (g.H.Reach.known c.args.reach.now) (g.H.Reach.known c.loop-tally.reach)
    c.loop-tally.tally none c.loop-tally.invariant.working
