use Rattle.std.proofs.Common.{length}
use Rattle.im_text.specs.Report.{history_text}
use Rattle.im_shell.specs.Reports.{entries_text}
use Rattle.im_shell.proofs.SentLemmas.{OnErr-always, OnErr-then, OnOk-then, SendsPart-front}
use Rattle.im_shell.proofs.report.put_history.Goals as goal

pub returns-in_err-put_next-clause-err : goal.returns-in_err-put_next-clause-err
returns-in_err-put_next-clause-err g c =
    OnErr-always _ (SendsPart-front _ _ c.args.writer.now.waiting.now (history_text (length c.args.history.now.entries)) (entries_text 0 c.args.history.now.entries)
    (rw c.len.ensures at c.in_err-put_next.ensures.err))

pub returns-clause-ok : goal.returns-clause-ok
returns-clause-ok g c =
    OnOk-then _ _ _ _ c.args.writer.now.waiting.now (history_text (length c.args.history.now.entries)) (entries_text 0 c.args.history.now.entries) _ _
    (rw c.len.ensures at c.in_ok-put_next.ensures.ok) c.put_entries.ensures.ok

pub returns-clause-err : goal.returns-clause-err
returns-clause-err g c =
    OnErr-then _ _ _ _ c.args.writer.now.waiting.now (history_text (length c.args.history.now.entries)) (entries_text 0 c.args.history.now.entries) _
    (rw c.len.ensures at c.in_ok-put_next.ensures.ok) c.put_entries.ensures.err
