use Rattle.std.proofs.Common.{map, subst}
use Rattle.im_values.specs.Widened.{widened}
use Rattle.im_history.specs.Fetched.{HasNumbers}
use Rattle.im_history.proofs.FetchedLaws.{each_at-widened, length-map-widened, rows-each_at, rows-run_from, run_from-widened}
use Rattle.im_history.proofs.shown.put_piece.Goals as goal

pub returns-in-Run : goal.returns-in-Run
returns-in-Run c =
    let defaults = c.args.defaults.now in
    rw (c.in-Run.is, ← run_from-widened defaults c.in-Run.field-0 c.in-Run.run', rows-run_from c.in-Run.field-0 (map (widened defaults) c.in-Run.run'), ← c.of.ensures)
    c.put_run.ensures

pub returns-in-Each : goal.returns-in-Each
returns-in-Each c =
    let defaults = c.args.defaults.now in
    let rids = c.in-Each._rids.items in
    let rows = c.in-Each.run' in
    let numbers = subst HasNumbers c.in-Each.is c.requires in
    rw (c.in-Each.is, ← each_at-widened defaults rids rows, rows-each_at rids (map (widened defaults) rows) (length-map-widened defaults rids rows numbers), ← c.of-in-Each.ensures)
    c.put_run-in-Each.ensures
