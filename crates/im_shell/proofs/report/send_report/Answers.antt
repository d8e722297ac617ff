use Rattle.im_shell.proofs.SentLemmas.{OnErr-always, Sends-after, SendsPart-after, Took-sent}
use Rattle.im_shell.proofs.report.send_report.Goals as goal

pub returns-in_err-put_report-clause-err : goal.returns-in_err-put_report-clause-err
returns-in_err-put_report-clause-err g c = OnErr-always _ (rw c.requires.none_waits at c.in_err-put_report.ensures.err)

pub returns-in_err-flush-clause-err : goal.returns-in_err-flush-clause-err
returns-in_err-flush-clause-err g c =
    OnErr-always _ (SendsPart-after _ _ _ _ _ (rw c.requires.none_waits at c.in_ok-put_report.ensures.ok) c.in_err-flush.ensures.err)

pub returns-clause-ok : goal.returns-clause-ok
returns-clause-ok g c =
    Took-sent _ _ _ _
    (Sends-after _ _ _ _ _ _ (rw c.requires.none_waits at c.in_ok-put_report.ensures.ok) c.in_ok-flush.ensures.ok)
    c.in_ok-flush.ensures.none_left
