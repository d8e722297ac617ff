use Rattle.std.proofs.Common.{◌≡◌, ◌+◌, ◌<◌, ◌++◌, All, map}
use Rattle.im_race.specs.inner.SettingUp.{worker_jobs}
use Rattle.im_race.specs.Race.{FIRST_WORKER}
use Rattle.im_race.proofs.jobs.add_workers.Given as goal

-- the workers so far have their jobs, and numbers below the next one were given
abbrev pub invariant-loop-worker : goal.invariant-loop-worker
invariant-loop-worker l = record {
  jobs : l.jobs.items ≡ l.fn.jobs.items ++ worker_jobs l.fn.first FIRST_WORKER l.worker;
  pass : l.first ≡ record l.fn.first { gave = map (λ job. job.who) l.jobs.items };
  given : All (λ n. n < FIRST_WORKER + l.worker) l.first.gave;
}
