use Rattle.im_race.specs.inner.Playing.{IsAmong}
use Rattle.im_race.proofs.playing.play_lines.Given as goal

-- the session played those of the lines so far in which it speaks
abbrev pub invariant-loop-line : goal.invariant-loop-line
invariant-loop-line g l =
    IsAmong l.who l.fn.session (g.H.Reach.known l.fn.reach) l.lines l.line-index l.replies.items l.session (g.H.Reach.known l.reach)
