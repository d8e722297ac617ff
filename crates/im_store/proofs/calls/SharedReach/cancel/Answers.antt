use Rattle.im_store.proofs.CallLemmas.{went_since}
use Rattle.im_store.proofs.OwnLaws.{IsOwn-on}
use Rattle.im_store.proofs.calls.SharedReach.cancel.Goals as goal

pub cancel-answer-requires-clause-own : goal.cancel-answer-requires-clause-own
cancel-answer-requires-clause-own g c =
    IsOwn-on (went_since c.args.who c.self.view_is c.take-core.ensures.took c.requires.speaks) c.args.task c.requires.own
