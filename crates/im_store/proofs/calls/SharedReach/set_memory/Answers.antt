use Rattle.im_history.specs.declared.entry.What.TheVariants.{Memory}
use Rattle.im_store.proofs.CallLemmas.{grew_either, mine_in, went_since}
use Rattle.im_store.proofs.OtherLaws.{MaySetMemory-on}
use Rattle.im_store.proofs.calls.SharedReach.set_memory.Goals as goal

pub set_memory-answer-requires-clause-may : goal.set_memory-answer-requires-clause-may
set_memory-answer-requires-clause-may g c =
    MaySetMemory-on (went_since c.args.who c.self.view_is c.take-core.ensures.took c.requires.speaks) c.args.table c.requires.may

pub give-requires-clause-grew : goal.give-requires-clause-grew
give-requires-clause-grew g c =
    grew_either c.take-core.ensures.took c.set_memory-answer.result c.args.who (Memory c.args.table c.args.priority)
    (mine_in c.args.who c.self.view_is c.requires.speaks) c.set_memory-answer.ensures.ok c.set_memory-answer.ensures.err
