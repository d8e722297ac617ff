use Rattle.im_feed.proofs.StepLemmas.{pops, tells_both}
use Rattle.im_feed.proofs.queue.next.Goals as goal

pub pop_as-requires-clause-rule : goal.pop_as-requires-clause-rule
pop_as-requires-clause-rule g c = (pops _ _ c.requires.standby.may, tells_both _ _ c.requires.standby.may)
