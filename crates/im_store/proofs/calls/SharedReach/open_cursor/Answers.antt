use Rattle.im_history.specs.declared.entry.What.TheVariants.{Open}
use Rattle.im_store.proofs.CallLemmas.{grew_either, mine_in, went_since}
use Rattle.im_store.proofs.OtherLaws.{Exists-on}
use Rattle.im_store.proofs.calls.SharedReach.open_cursor.Goals as goal

pub open_cursor-answer-requires-clause-exists : goal.open_cursor-answer-requires-clause-exists
open_cursor-answer-requires-clause-exists g c =
    Exists-on (went_since c.args.who c.self.view_is c.take-core.ensures.took c.requires.speaks) c.args.opening.table c.requires.exists

pub give-requires-clause-grew : goal.give-requires-clause-grew
give-requires-clause-grew g c =
    grew_either c.take-core.ensures.took c.open_cursor-answer.result c.args.who (Open c.args.cursor c.args.opening.table c.args.asked)
    (mine_in c.args.who c.self.view_is c.requires.speaks) c.open_cursor-answer.ensures.ok c.open_cursor-answer.ensures.err
