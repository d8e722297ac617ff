use Rattle.im_history.specs.declared.entry.What.TheVariants.{Add}
use Rattle.im_store.proofs.CallLemmas.{grew_either, mine_in, went_since}
use Rattle.im_store.proofs.OtherLaws.{Exists-on, is_open-on}
use Rattle.im_store.proofs.calls.SharedReach.add_column.Goals as goal

pub add_column-answer-requires-clause-exists : goal.add_column-answer-requires-clause-exists
add_column-answer-requires-clause-exists g c =
    Exists-on (went_since c.args.who c.self.view_is c.take-core.ensures.took c.requires.speaks) c.args.table c.requires.exists

pub add_column-answer-requires-clause-idle : goal.add_column-answer-requires-clause-idle
add_column-answer-requires-clause-idle g c =
    is_open-on (went_since c.args.who c.self.view_is c.take-core.ensures.took c.requires.speaks) c.requires.idle

pub give-requires-clause-grew : goal.give-requires-clause-grew
give-requires-clause-grew g c =
    grew_either c.take-core.ensures.took c.add_column-answer.result c.args.who (Add c.args.table c.args.column c.args.default)
    (mine_in c.args.who c.self.view_is c.requires.speaks) c.add_column-answer.ensures.ok c.add_column-answer.ensures.err
