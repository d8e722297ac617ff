use Rattle.std.proofs.Common.{◌≡◌, map}
use Rattle.im_race.specs.inner.Doing.{waiting}
use Rattle.im_race.proofs.course.posts_of.Given as goal

-- each job so far waits at a post
abbrev pub invariant-loop-job : goal.invariant-loop-job
invariant-loop-job l = l.posts.items ≡ map waiting l.yielded
