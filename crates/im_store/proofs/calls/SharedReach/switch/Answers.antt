use Rattle.im_store.proofs.CallLemmas.{grew_switched, mine_in, went_since}
use Rattle.im_store.proofs.OwnLaws.{IsOwn-on, task_content-on}
use Rattle.std.proofs.Common.{sym, ◌∙◌}
use Rattle.im_store.proofs.calls.SharedReach.switch.Goals as goal

pub switch-answer-requires-clause-own : goal.switch-answer-requires-clause-own
switch-answer-requires-clause-own g c =
    IsOwn-on (went_since c.args.who c.self.view_is c.take-core.ensures.took c.requires.speaks) c.args.task c.requires.own

pub switch-answer-requires-clause-holds : goal.switch-answer-requires-clause-holds
switch-answer-requires-clause-holds g c =
    c.requires.holds
    ∙ sym (task_content-on (went_since c.args.who c.self.view_is c.take-core.ensures.took c.requires.speaks) c.args.task c.requires.own)

pub give-requires-clause-grew : goal.give-requires-clause-grew
give-requires-clause-grew g c =
    grew_switched c.take-core.ensures.took _ c.args.who c.args.task c.switch-answer.result
    (mine_in c.args.who c.self.view_is c.requires.speaks) c.switch-answer.ensures
