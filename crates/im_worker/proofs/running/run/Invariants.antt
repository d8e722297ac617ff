use Rattle.im_worker.specs.Reads.{IsCounted}
use Rattle.im_worker.specs.inner.Running.{IsRunning}
use Rattle.im_worker.proofs.running.run.Given as goal

-- whatever the rest of the rounds comes to, the whole comes to
abbrev pub invariant-loop : goal.invariant-loop
invariant-loop g l = record {
  can_next : (goal.iterator-loop g).can_next l.iterator';
  is_finite : (goal.iterator-loop g).is_finite l.iterator';
  running : IsRunning l.fn.who l.fn.held.items l.ran.items (g.H.Reach.known l.fn.reach) (g.H.Reach.known l.reach);
  ticks : IsCounted l.fn.who l.fn.steps l.steps (g.H.Reach.known l.fn.reach).log (g.H.Reach.known l.reach).log;
}
