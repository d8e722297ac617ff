use Rattle.std.proofs.Common.{rules}
use Rattle.im_feed.proofs.StepLemmas.{begins, forks}
use Rattle.im_feed.proofs.queue.make_feed.Goals as goal

pub ruled-requires-clause-rule : goal.ruled-requires-clause-rule
ruled-requires-clause-rule c = begins

pub another-standby-requires-clause-rule : goal.another-standby-requires-clause-rule
another-standby-requires-clause-rule c = forks _ _ (search rules) (search rules)
