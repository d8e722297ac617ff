use Rattle.im_history.specs.declared.entry.What.TheVariants.{Evict}
use Rattle.im_store.proofs.CallLemmas.{grew_either, mine_in, went_since}
use Rattle.im_store.proofs.OtherLaws.{Exists-on}
use Rattle.im_store.proofs.calls.SharedReach.evict.Goals as goal

pub evict-answer-requires-clause-exists : goal.evict-answer-requires-clause-exists
evict-answer-requires-clause-exists g c =
    Exists-on (went_since c.args.who c.self.view_is c.take-core.ensures.took c.requires.speaks) c.args.table c.requires.exists

pub give-requires-clause-grew : goal.give-requires-clause-grew
give-requires-clause-grew g c =
    grew_either c.take-core.ensures.took c.evict-answer.result c.args.who (Evict c.args.table c.args.extent)
    (mine_in c.args.who c.self.view_is c.requires.speaks) c.evict-answer.ensures.ok c.evict-answer.ensures.err
