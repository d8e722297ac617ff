use Rattle.im_history.specs.declared.entry.What.TheVariants.{Purge}
use Rattle.im_store.proofs.CallLemmas.{grew_either, mine_in}
use Rattle.im_store.proofs.calls.SharedReach.purge.Goals as goal

pub give-requires-clause-grew : goal.give-requires-clause-grew
give-requires-clause-grew g c =
    grew_either c.take-core.ensures.took c.purge-answer.result c.args.who Purge
    (mine_in c.args.who c.self.view_is c.requires.speaks) c.purge-answer.ensures.ok c.purge-answer.ensures.err
