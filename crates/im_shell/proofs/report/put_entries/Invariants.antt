use Rattle.std.proofs.Common.{◌≤◌, ◌-◌, ◌++◌, drop, length}
use Rattle.im_shell.specs.Reports.{entries_text}
use Rattle.im_shell.specs.inner.Writers.{IsSame}
use Rattle.im_shell.proofs.SentLemmas.{IsPutTo}
use Rattle.im_shell.proofs.report.put_entries.Given as goal

abbrev pub invariant-loop-place : goal.invariant-loop-place
invariant-loop-place g l = record {
  same : IsSame l.fn.writer l.writer;
  to : IsPutTo (g.K.Sink.taken l.fn.writer.sink.now) (g.K.Sink.taken l.writer.sink.now) (l.fn.writer.waiting.now ++ entries_text 0 l.history.entries) l.writer.waiting.now
      (entries_text l.place (drop l.place l.history.entries));
  later : g.K.Sink.faults l.fn.writer.sink.now ≤ g.K.Sink.faults l.writer.sink.now;
}

abbrev pub decreases-loop-place : goal.decreases-loop-place
decreases-loop-place g l = length l.history.entries - l.place
