use Rattle.std.proofs.Common.{ap, ◌∙◌}
use Rattle.im_reach.specs.Sides.{Known, speaks}
use Rattle.im_worker.proofs.CountLemmas.{counted-counted}
use Rattle.im_worker.proofs.RunLemmas.{running-ends, running-next}
use Rattle.im_worker.proofs.running.run.Goals as goal

pub round-requires-clause-speaks : goal.round-requires-clause-speaks
round-requires-clause-speaks g c = ap (λ (s : Known). speaks s.side c.args.who) c.loop.invariant.running.kept ∙ c.requires.speaks

pub round-requires-clause-stands : goal.round-requires-clause-stands
round-requires-clause-stands g c = c.loop.invariant.running.stands

pub returns-in-Some-round-clause-ran : goal.returns-in-Some-round-clause-ran
returns-in-Some-round-clause-ran g c =
    running-ends c.args.who c.args.held.now.items c.loop.ran.items (g.H.Reach.known c.args.reach.now) (g.H.Reach.known c.loop.reach)
    (g.H.Reach.known c.round.new.reach) c.in-Some-round.reply c.loop.invariant.running c.in-Some-round.ensures.turn

pub returns-in-Some-round-clause-ticks : goal.returns-in-Some-round-clause-ticks
returns-in-Some-round-clause-ticks g c =
    counted-counted c.args.who c.args.steps.now c.loop.steps c.round.new.steps (g.H.Reach.known c.args.reach.now) (g.H.Reach.known c.loop.reach)
    (g.H.Reach.known c.round.new.reach) c.loop.invariant.ticks c.in-Some-round.ensures.ticks

pub loop-preserved : goal.loop-preserved
loop-preserved g c = record {
  can_next = tt;
  is_finite = tt;
  running = running-next c.args.who c.args.held.now.items c.loop.ran.items c.round.new.ran.items (g.H.Reach.known c.args.reach.now)
      (g.H.Reach.known c.loop.reach) (g.H.Reach.known c.round.new.reach) c.loop.invariant.running c.in_default.ensures.turn;
  ticks = counted-counted c.args.who c.args.steps.now c.loop.steps c.round.new.steps (g.H.Reach.known c.args.reach.now) (g.H.Reach.known c.loop.reach)
      (g.H.Reach.known c.round.new.reach) c.loop.invariant.ticks c.in_default.ensures.ticks;
}
