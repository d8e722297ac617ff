use Rattle.std.proofs.Common.{◌≡◌, ◌≤◌, length}
use Rattle.im_play.specs.Between.{IsBetween, machine_of}
use Rattle.im_shell.specs.inner.Writers.{IsSame}
use Rattle.im_shell.proofs.PlayLemmas.{IsGoing}
use Rattle.im_shell.proofs.play.play_lines.Given as goal

abbrev pub invariant-loop-rest : goal.invariant-loop-rest
invariant-loop-rest g l = record {
  same : IsSame l.fn.writer l.writer;
  going : IsGoing l.fn.writer.shown (g.H.Reach.known l.fn.reach).limits.area l.fn.script (g.K.Sink.taken l.fn.writer.sink.now) (g.K.Sink.taken l.writer.sink.now) l.number
      (machine_of (g.H.Reach.known l.reach) l.players.sessions.items l.players.background) l.rest l.writer.waiting.now l.fn.steps l.steps;
  between : IsBetween (g.H.Reach.known l.reach) l.players.sessions.items l.players.background;
  limits : (g.H.Reach.known l.reach).limits ≡ (g.H.Reach.known l.fn.reach).limits;
  later : g.K.Sink.faults l.fn.writer.sink.now ≤ g.K.Sink.faults l.writer.sink.now;
}

abbrev pub decreases-loop-rest : goal.decreases-loop-rest
decreases-loop-rest g l = length l.rest
