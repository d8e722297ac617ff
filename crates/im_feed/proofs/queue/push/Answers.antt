use Rattle.im_feed.proofs.StepLemmas.{pushes, tells_end}
use Rattle.im_feed.proofs.queue.push.Goals as goal

pub push_as-requires-clause-rule : goal.push_as-requires-clause-rule
push_as-requires-clause-rule g c = (pushes _ _ _ _ c.requires.sender.may c.requires.lawful, tells_end _ _ c.requires.sender.may)
