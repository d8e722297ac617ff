use Rattle.im_history.specs.declared.entry.What.TheVariants.{Create}
use Rattle.im_store.proofs.CallLemmas.{grew_either, mine_in, went_since}
use Rattle.im_store.proofs.OtherLaws.{is_open-on}
use Rattle.im_store.proofs.calls.SharedReach.create.Goals as goal

pub create-answer-requires-clause-idle : goal.create-answer-requires-clause-idle
create-answer-requires-clause-idle g c =
    is_open-on (went_since c.args.who c.self.view_is c.take-core.ensures.took c.requires.speaks) c.requires.idle

pub give-requires-clause-grew : goal.give-requires-clause-grew
give-requires-clause-grew g c =
    grew_either c.take-core.ensures.took c.create-answer.result c.args.who (Create c.args.name c.args.schema c.args.shape)
    (mine_in c.args.who c.self.view_is c.requires.speaks) c.create-answer.ensures.ok c.create-answer.ensures.err
