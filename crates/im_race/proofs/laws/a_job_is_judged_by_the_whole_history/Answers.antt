use Rattle.im_race.proofs.JobLaws.{job-after}
use Rattle.im_race.proofs.laws.a_job_is_judged_by_the_whole_history.Goals as goal

pub returns : goal.returns
returns c = job-after
