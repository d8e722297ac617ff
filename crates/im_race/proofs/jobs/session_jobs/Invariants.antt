use Rattle.std.proofs.Common.{◌≡◌, ◌<◌, All, length, map}
use Rattle.im_race.specs.inner.SettingUp.{session_jobs}
use Rattle.im_race.proofs.jobs.session_jobs.Given as goal

-- the sessions so far have their jobs, and numbers below the next one were given
abbrev pub invariant-loop-session : goal.invariant-loop-session
invariant-loop-session l = record {
  who : l.who ≡ length l.yielded;
  jobs : l.jobs.items ≡ session_jobs l.fn.first l.fn.lines 0 l.yielded;
  pass : l.first ≡ record l.fn.first { gave = map (λ job. job.who) l.jobs.items };
  given : All (λ n. n < l.who) l.first.gave;
}
