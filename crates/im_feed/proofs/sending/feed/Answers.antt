use Rattle.im_feed.specs.Passes.{pushed}
use Rattle.im_feed.proofs.RoundLemmas.{going-next, going-none, going-over, some-waits}
use Rattle.im_feed.proofs.sending.feed.Goals as goal

pub loop-tally-init : goal.loop-tally-init
loop-tally-init g c = record {
  sender = c.requires.sender;
  going = going-none _ c.args.turns c.args.sessions (g.H.Reach.known c.args.reach.now) (pushed c.args.pass) c.requires.nothing_pushed;
}

pub loop-tally-preserved : goal.loop-tally-preserved
loop-tally-preserved g c = record {
  sender = c.if-round.ensures.sender;
  going =
      going-next _ c.args.turns c.args.sessions (g.H.Reach.known c.args.reach.now) (g.H.Reach.known c.loop-tally.reach) (g.H.Reach.known c.round.new.reach)
      c.loop-tally.tally c.round.new.tally _ _ c.loop-tally-test.true c.loop-tally.invariant.going c.if-round.ensures.round;
}

pub returns-then-round-clause-pushed : goal.returns-then-round-clause-pushed
returns-then-round-clause-pushed g c =
    (going-over _ c.args.turns c.args.sessions (g.H.Reach.known c.args.reach.now) (g.H.Reach.known c.loop-tally.reach) (g.H.Reach.known c.round.new.reach)
    c.loop-tally.tally c.round.new.tally _ _ c.loop-tally.invariant.going c.if-round.ensures.round).first

pub returns-then-round-clause-over : goal.returns-then-round-clause-over
returns-then-round-clause-over g c =
    let ended = going-over _ c.args.turns c.args.sessions (g.H.Reach.known c.args.reach.now) (g.H.Reach.known c.loop-tally.reach)
    (g.H.Reach.known c.round.new.reach) c.loop-tally.tally c.round.new.tally _ _ c.loop-tally.invariant.going
    c.if-round.ensures.round in
    (ended.all, ended.left)

pub returns-clause-waits : goal.returns-clause-waits
returns-clause-waits g c =
    some-waits _ c.args.turns c.args.sessions (g.H.Reach.known c.args.reach.now) c.loop-tally.tally (pushed c.loop-tally.pass)
    (g.H.Reach.known c.loop-tally.reach) c.loop-tally.invariant.going
