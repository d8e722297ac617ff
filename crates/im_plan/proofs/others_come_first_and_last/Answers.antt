use Rattle.im_plan.specs.Goes.{Others}
use Rattle.im_plan.proofs.GoesLaws.{others-go_on, others-wider, rest-first, rest-last, rest-wider}
use Rattle.im_plan.proofs.others_come_first_and_last.Goals as goal

pub returns-clause-first : goal.returns-clause-first
returns-clause-first g c mine who amends k old at plan result new first rest =
    rest-first (Others mine) (others-go_on mine) who amends k old at plan result new first rest

pub returns-clause-last : goal.returns-clause-last
returns-clause-last g c mine who amends k old plan result at new rest last =
    rest-last (Others mine) (others-go_on mine) who amends k old plan result at new rest last

pub returns-clause-wider : goal.returns-clause-wider
returns-clause-wider g c mine fewer wider who amends k old plan result new rest =
    rest-wider (Others mine) (Others fewer) (others-wider mine fewer wider) who amends k old plan result new rest
