use Rattle.im_store.proofs.CallLemmas.{grew_not, went_since}
use Rattle.im_store.proofs.OwnLaws.{IsOwn-on}
use Rattle.im_store.proofs.calls.SharedReach.read_task.Goals as goal

pub read_task-answer-requires : goal.read_task-answer-requires
read_task-answer-requires g c =
    record {
      own = IsOwn-on (went_since c.args.who c.self.view_is c.take-core.ensures.took c.requires.speaks) c.args.task.now c.requires.own;
    }

pub give-requires-clause-grew : goal.give-requires-clause-grew
give-requires-clause-grew g c =
    grew_not c.take-core.ensures.took c.read_task-answer.ensures.same
