use Rattle.im_history.specs.declared.entry.What.TheVariants.{Trickle}
use Rattle.im_store.proofs.CallLemmas.{grew_either, mine_in}
use Rattle.im_store.proofs.calls.SharedReach.trickle.Goals as goal

pub give-requires-clause-grew : goal.give-requires-clause-grew
give-requires-clause-grew g c =
    grew_either c.take-core.ensures.took c.trickle-answer.result c.args.who (Trickle c.args.n)
    (mine_in c.args.who c.self.view_is c.requires.speaks) c.trickle-answer.ensures.ok c.trickle-answer.ensures.err
