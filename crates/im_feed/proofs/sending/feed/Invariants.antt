use Rattle.crossbeam_queue.specs.Passes.{ruled_capacity}
use Rattle.im_feed.specs.Passes.{IsSender, pushed}
use Rattle.im_feed.specs.inner.Sending.{IsGoing}
use Rattle.im_feed.proofs.sending.feed.Given as goal

-- the rounds so far
abbrev pub invariant-loop-tally : goal.invariant-loop-tally
invariant-loop-tally g l = record {
  sender : IsSender l.fn.queue l.pass;
  going : IsGoing (ruled_capacity l.fn.queue) l.fn.turns l.fn.sessions (g.H.Reach.known l.fn.reach) l.tally (pushed l.pass) (g.H.Reach.known l.reach);
}

abbrev pub decreases-loop-tally : goal.decreases-loop-tally
decreases-loop-tally g l = l.tally.left
