use Rattle.im_feed.specs.Passes.{IsStandby}
use Rattle.check_store.proofs.feeds.pops.Given as goal

abbrev pub invariant-loop : goal.invariant-loop
invariant-loop g l = IsStandby l.fn.queue l.pass
