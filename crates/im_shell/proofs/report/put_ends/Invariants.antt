use Rattle.std.proofs.Common.{◌≡◌, ◌≤◌, ◌+◌, ◌++◌, drop}
use Rattle.im_race.specs.Race.{FIRST_WORKER}
use Rattle.im_shell.specs.Reports.{ends_text}
use Rattle.im_shell.specs.inner.Writers.{IsSame}
use Rattle.im_shell.proofs.SentLemmas.{IsPutTo}
use Rattle.im_shell.proofs.report.put_ends.Given as goal

abbrev pub invariant-loop-ended : goal.invariant-loop-ended
invariant-loop-ended g l = record {
  same : IsSame l.fn.writer l.writer;
  to : IsPutTo (g.K.Sink.taken l.fn.writer.sink.now) (g.K.Sink.taken l.writer.sink.now) (l.fn.writer.waiting.now ++ ends_text FIRST_WORKER l.ends) l.writer.waiting.now
      (ends_text l.who (drop l.ended-index l.ends));
  who : l.who ≡ FIRST_WORKER + l.ended-index;
  later : g.K.Sink.faults l.fn.writer.sink.now ≤ g.K.Sink.faults l.writer.sink.now;
}
