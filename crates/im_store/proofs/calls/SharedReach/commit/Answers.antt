use Rattle.im_history.specs.declared.entry.What.TheVariants.{Commit}
use Rattle.im_store.proofs.CallLemmas.{grew_either, mine_in}
use Rattle.im_store.proofs.calls.SharedReach.commit.Goals as goal

pub give-requires-clause-grew : goal.give-requires-clause-grew
give-requires-clause-grew g c =
    grew_either c.take-core.ensures.took c.commit-answer.result c.args.who Commit
    (mine_in c.args.who c.self.view_is c.requires.speaks) c.commit-answer.ensures.ok c.commit-answer.ensures.err
