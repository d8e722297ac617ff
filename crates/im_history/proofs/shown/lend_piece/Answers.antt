use Rattle.im_history.proofs.FetchedLaws.{each_at-widened, run_from-widened}
use Rattle.im_history.proofs.shown.lend_piece.Goals as goal

pub returns-in-Run : goal.returns-in-Run
returns-in-Run c = rw (c.in-Run.is, ← run_from-widened c.args.defaults.now c.in-Run.first c.in-Run.run', ← c.of.ensures) c.lend_run.ensures

pub returns-in-Each : goal.returns-in-Each
returns-in-Each c =
    rw (c.in-Each.is, ← each_at-widened c.args.defaults.now c.in-Each.rids.items c.in-Each.run', ← c.of-in-Each.ensures, ← c.as_slice.ensures.value) c.lend_each.ensures
