use Rattle.std.proofs.Common.{rules}
use Rattle.im_feed.proofs.StepLemmas.{merges, tells_both}
use Rattle.im_feed.proofs.queue.meet.Goals as goal

pub absorb-requires-clause-rule : goal.absorb-requires-clause-rule
absorb-requires-clause-rule c = merges _ _ _ _ c.requires.standby.may c.requires.sender.may

pub learn_as-requires-clause-rule : goal.learn_as-requires-clause-rule
learn_as-requires-clause-rule c = tells_both _ _ (search rules)
