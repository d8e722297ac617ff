use Rattle.im_history.specs.declared.entry.What.TheVariants.{Write}
use Rattle.im_store.proofs.CallLemmas.{grew_either, mine_in, went_since}
use Rattle.im_store.proofs.OwnLaws.{MayWrite-on}
use Rattle.im_store.proofs.calls.SharedReach.write.Goals as goal

pub write-answer-requires-clause-may : goal.write-answer-requires-clause-may
write-answer-requires-clause-may g c =
    MayWrite-on (went_since c.args.who c.self.view_is c.take-core.ensures.took c.requires.speaks) c.args.cursor c.args.changes.items c.requires.may

pub give-requires-clause-grew : goal.give-requires-clause-grew
give-requires-clause-grew g c =
    grew_either c.take-core.ensures.took c.write-answer.result c.args.who (Write c.args.changes.items)
    (mine_in c.args.who c.self.view_is c.requires.speaks) c.write-answer.ensures.ok c.write-answer.ensures.err
