use Rattle.im_play.specs.Between.{machine_of}
use Rattle.im_play.proofs.LinesLemmas.{IsGoing}
use Rattle.im_play.proofs.players.play_lines.Given as goal

-- whatever the lines that are left come to, all come to
abbrev pub invariant-loop-line : goal.invariant-loop-line
invariant-loop-line g l =
    IsGoing l.lines l.line-index (g.H.Reach.known l.fn.reach)
    (machine_of (g.H.Reach.known l.fn.reach) l.fn.players.sessions.items l.fn.players.background) (g.H.Reach.known l.reach)
    l.players.sessions.items l.players.background l.replies.items l.fn.steps l.steps
