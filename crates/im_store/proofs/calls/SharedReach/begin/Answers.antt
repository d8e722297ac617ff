use Rattle.im_history.specs.declared.entry.What.TheVariants.{Begin}
use Rattle.im_store.proofs.CallLemmas.{grew_either, mine_in}
use Rattle.im_store.proofs.calls.SharedReach.begin.Goals as goal

pub give-requires-clause-grew : goal.give-requires-clause-grew
give-requires-clause-grew g c =
    grew_either c.take-core.ensures.took c.begin-answer.result c.args.who (Begin c.args.mode)
    (mine_in c.args.who c.self.view_is c.requires.speaks) c.begin-answer.ensures.ok c.begin-answer.ensures.err
