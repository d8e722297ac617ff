use Rattle.std.proofs.Common.{◌≤◌, ◌++◌, drop}
use Rattle.im_shell.specs.declared.shown.Shown.TheVariants.{All}
use Rattle.im_shell.specs.Texts.{text_of}
use Rattle.im_shell.specs.inner.Writers.{IsSame}
use Rattle.im_shell.proofs.SentLemmas.{IsPutTo}
use Rattle.im_shell.proofs.report.put_replies.Given as goal

abbrev pub invariant-loop-line : goal.invariant-loop-line
invariant-loop-line g l = record {
  same : IsSame l.fn.writer l.writer;
  to : IsPutTo (g.K.Sink.taken l.fn.writer.sink.now) (g.K.Sink.taken l.writer.sink.now) (l.fn.writer.waiting.now ++ text_of All l.replies) l.writer.waiting.now
      (text_of All (drop l.line-index l.replies));
  later : g.K.Sink.faults l.fn.writer.sink.now ≤ g.K.Sink.faults l.writer.sink.now;
}
