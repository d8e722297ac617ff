use Rattle.im_worker.specs.Reads.{IsCounted}
use Rattle.im_worker.specs.inner.Working.{IsWorking}
use Rattle.im_worker.proofs.work.job.Given as goal

-- the rounds so far, and what they read
abbrev pub invariant-loop-tally : goal.invariant-loop-tally
invariant-loop-tally g l = record {
  working : IsWorking l.fn.who l.fn.turns l.fn.sessions l.fn.held.items (g.H.Reach.known l.fn.reach) l.tally (g.H.Reach.known l.reach);
  ticks : IsCounted l.fn.who l.fn.steps l.steps (g.H.Reach.known l.fn.reach).log (g.H.Reach.known l.reach).log;
}

abbrev pub decreases-loop-tally : goal.decreases-loop-tally
decreases-loop-tally g l = l.tally.left
