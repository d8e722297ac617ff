use Rattle.std.proofs.Common.{◌∙◌}
use Rattle.im_txn.proofs.CellLemmas.{set_cells-put}
use Rattle.im_txn.proofs.locks.Locks.set_all.Goals as goal

pub returns-in-Some : goal.returns-in-Some
returns-in-Some c =
    c.set_rows.ensures
    ∙ set_cells-put c.args.value c.args.self.now c.args.changes.now c.in-Some.put.table c.in-Some.put.first c.len.result c.in-Some.put.rows.now
    c.in-Some.ensures.put c.len.ensures
