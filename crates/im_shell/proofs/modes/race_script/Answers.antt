use Rattle.im_shell.proofs.ModeLemmas.{OnErr-raced}
use Rattle.im_shell.proofs.modes.race_script.Goals as goal

pub returns-clause-err : goal.returns-clause-err
returns-clause-err g c = OnErr-raced _ _ _ _ _ _ _ _ _ c.in_ok-report.ensures c.write_report-written.ensures.err
