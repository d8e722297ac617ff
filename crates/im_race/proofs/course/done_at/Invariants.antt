use Rattle.std.proofs.Common.{◌≡◌}
use Rattle.std.specs.Prelude.{filter_map}
use Rattle.im_race.specs.declared.job.Post.{Post}
use Rattle.im_race.proofs.course.done_at.Given as goal

-- what came of the jobs at the posts so far
abbrev pub invariant-loop-post : goal.invariant-loop-post
invariant-loop-post l = l.all.items ≡ filter_map (λ (post : Post). post.done) l.yielded
