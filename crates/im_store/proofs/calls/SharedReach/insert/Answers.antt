use Rattle.im_history.specs.Legal.{put_from}
use Rattle.im_history.specs.Tables.{given}
use Rattle.im_history.specs.declared.entry.What.TheVariants.{Write}
use Rattle.im_store.proofs.CallLemmas.{grew_either, mine_in, went_since}
use Rattle.im_store.proofs.OtherLaws.{MayPut-on}
use Rattle.im_store.proofs.calls.SharedReach.insert.Goals as goal

pub insert-answer-requires-clause-may : goal.insert-answer-requires-clause-may
insert-answer-requires-clause-may g c =
    MayPut-on (went_since c.args.who c.self.view_is c.take-core.ensures.took c.requires.speaks) c.args.opening c.args.rows c.requires.may

pub give-requires-clause-grew : goal.give-requires-clause-grew
give-requires-clause-grew g c =
    grew_either c.take-core.ensures.took c.insert-answer.result c.args.who
    (Write (put_from c.args.opening.table (given c.take-core.result.log c.args.opening.table) c.args.rows))
    (mine_in c.args.who c.self.view_is c.requires.speaks) c.insert-answer.ensures.ok c.insert-answer.ensures.err
