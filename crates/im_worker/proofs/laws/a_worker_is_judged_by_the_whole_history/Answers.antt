use Rattle.im_plan.specs.Goes.{Others}
use Rattle.im_plan.proofs.GoesLaws.{others-go_on}
use Rattle.im_worker.proofs.JudgingLaws.{begun-later, idle-on, over-on, worked-adds}
use Rattle.im_worker.proofs.WorkLaws.{worked-last}
use Rattle.im_worker.proofs.laws.a_worker_is_judged_by_the_whole_history.Goals as goal

pub returns-clause-adds : goal.returns-clause-adds
returns-clause-adds c = worked-adds

pub returns-clause-worked : goal.returns-clause-worked
returns-clause-worked c mine limits who rounds old at new worked last =
    worked-last (Others mine) (others-go_on mine) limits who rounds old at new worked last

pub returns-clause-idle : goal.returns-clause-idle
returns-clause-idle c = idle-on

pub returns-clause-over : goal.returns-clause-over
returns-clause-over c = over-on

pub returns-clause-begun : goal.returns-clause-begun
returns-clause-begun c = begun-later
