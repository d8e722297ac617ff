use Rattle.std.proofs.Common.{subst}
use Rattle.im_history.specs.Fetched.{HasNumbers}
use Rattle.im_history.proofs.FetchedLaws.{rows-each_at, rows-run_from}
use Rattle.im_worker.proofs.rows.put_piece.Goals as goal

pub returns-in-Run : goal.returns-in-Run
returns-in-Run c = rw (c.in-Run.is, rows-run_from c.in-Run.field-0 c.in-Run.run') c.put_run.ensures

pub returns-in-Each : goal.returns-in-Each
returns-in-Each c =
    let numbers = subst HasNumbers c.in-Each.is c.requires in
    rw (c.in-Each.is, rows-each_at c.in-Each.field-0.items c.in-Each.block numbers) c.put_run-in-Each.ensures
