use Rattle.im_race.specs.inner.Playing.{Went}
use Rattle.im_race.proofs.playing.leave.Given as goal

-- the session is still there
abbrev pub invariant-loop : goal.invariant-loop
invariant-loop g l = Went l.who (g.H.Reach.known l.fn.reach) l.session (g.H.Reach.known l.reach)
