use Rattle.im_store.proofs.CallLemmas.{went_since}
use Rattle.im_store.proofs.OtherLaws.{is_open-on}
use Rattle.im_store.proofs.calls.SharedReach.rollback.Goals as goal

pub rollback-answer-requires-clause-transaction : goal.rollback-answer-requires-clause-transaction
rollback-answer-requires-clause-transaction g c =
    is_open-on (went_since c.args.who c.self.view_is c.take-core.ensures.took c.requires.speaks) c.requires.transaction
