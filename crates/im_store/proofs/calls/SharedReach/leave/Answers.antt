use Rattle.im_history.specs.declared.entry.What.TheVariants.{Leave}
use Rattle.im_store.proofs.CallLemmas.{grew_either, mine_in, went_since}
use Rattle.im_store.proofs.OtherLaws.{MayLeave-on}
use Rattle.im_store.proofs.calls.SharedReach.leave.Goals as goal

pub leave-answer-requires-clause-may : goal.leave-answer-requires-clause-may
leave-answer-requires-clause-may g c =
    MayLeave-on (went_since c.args.who c.self.view_is c.take-core.ensures.took c.requires.speaks) c.requires.may

pub give-requires-clause-grew : goal.give-requires-clause-grew
give-requires-clause-grew g c =
    grew_either c.take-core.ensures.took c.leave-answer.result c.args.who Leave
    (mine_in c.args.who c.self.view_is c.requires.speaks) c.leave-answer.ensures.ok c.leave-answer.ensures.err
