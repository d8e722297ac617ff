use Rattle.std.proofs.Common.{◌≡◌}
use Rattle.im_reach.specs.Sides.{sole}
use Rattle.check_store.proofs.feeds.commit_all.Given as goal

abbrev pub invariant-loop : goal.invariant-loop
invariant-loop g l = (g.H.Reach.known l.store).side ≡ sole
