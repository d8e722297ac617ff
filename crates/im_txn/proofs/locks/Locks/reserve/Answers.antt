use Rattle.std.proofs.lemmas.Result.{on_ok_weaker}
use Rattle.im_txn.proofs.CellLemmas.{HasCells-put}
use Rattle.im_txn.proofs.locks.Locks.reserve.Goals as goal

pub returns-in-Some-clause-ok : goal.returns-in-Some-clause-ok
returns-in-Some-clause-ok c =
    on_ok_weaker c.reserve_rows.result
    (HasCells-put c.reserve_rows.new.self c.args.changes.now c.in-Some.put.table c.in-Some.put.first c.len.result c.in-Some.put.rows.now c.in-Some.ensures.put
    c.len.ensures)
    c.reserve_rows.ensures.ok
