use Rattle.im_shell.proofs.SentLemmas.{OnErr-always, SendsPart-nil}
use Rattle.im_shell.proofs.report.write_report.Goals as goal

pub returns-in_err-waiting-clause-err : goal.returns-in_err-waiting-clause-err
returns-in_err-waiting-clause-err g c = OnErr-always _ (SendsPart-nil _ _)
