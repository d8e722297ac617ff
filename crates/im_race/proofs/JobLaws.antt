-- What a session did holds of a longer history.
use Rattle.std.proofs.Common.{◌==◌, [], ◌∷◌}
use Rattle.im_plan.proofs.GoesLaws.{goes-last, others-go_on}
use Rattle.im_race.specs.Jobs.{IsJudgedByTheWhole, OthersThan}
use Rattle.im_session.specs.Ends.{end_plan}

pub job-after : IsJudgedByTheWhole
job-after area who state old at new [] after job =
    goes-last (OthersThan who) (others-go_on (λ number. who == number)) who old (end_plan who) tt at new job after
job-after area who state old at new (answer ∷ answers) after job =
    (job.0, job.1, job.2, job-after area who job.0 job.1 at new answers after job.3)
