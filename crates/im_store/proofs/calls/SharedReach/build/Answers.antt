use Rattle.im_store.proofs.CallLemmas.{grew_offer, mine_in}
use Rattle.im_store.proofs.calls.SharedReach.build.Goals as goal

pub give-requires-clause-grew : goal.give-requires-clause-grew
give-requires-clause-grew g c =
    grew_offer c.take-core.ensures.took c.build-answer.result c.args.who
    (mine_in c.args.who c.self.view_is c.requires.speaks) c.build-answer.ensures.ok c.build-answer.ensures.err
