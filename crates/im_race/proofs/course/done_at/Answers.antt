use Rattle.std.proofs.Common.{refl}
use Rattle.im_race.proofs.DoneLemmas.{done-more}
use Rattle.im_race.proofs.course.done_at.Goals as goal

pub loop-post-preserved : goal.loop-post-preserved
loop-post-preserved c =
    done-more c.loop-post.yielded c.in-Some.post c.in-Some.post.done c.loop-post.all.items c.take_done.new.all.items refl c.loop-post.invariant
    c.in_ok-take_done.ensures
