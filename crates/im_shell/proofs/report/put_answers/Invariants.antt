use Rattle.std.proofs.Common.{◌≤◌, ◌++◌, drop}
use Rattle.im_shell.specs.Reports.{answers_text}
use Rattle.im_shell.specs.inner.Writers.{IsSame}
use Rattle.im_shell.proofs.SentLemmas.{IsPutTo}
use Rattle.im_shell.proofs.report.put_answers.Given as goal

abbrev pub invariant-loop-line : goal.invariant-loop-line
invariant-loop-line g l = record {
  same : IsSame l.fn.writer l.writer;
  to : IsPutTo (g.K.Sink.taken l.fn.writer.sink.now) (g.K.Sink.taken l.writer.sink.now) (l.fn.writer.waiting.now ++ answers_text l.answers) l.writer.waiting.now
      (answers_text (drop l.line-index l.answers));
  later : g.K.Sink.faults l.fn.writer.sink.now ≤ g.K.Sink.faults l.writer.sink.now;
}
