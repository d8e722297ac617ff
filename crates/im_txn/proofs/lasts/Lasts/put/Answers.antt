use Rattle.std.proofs.lemmas.Result.{on_ok_weaker}
use Rattle.im_txn.proofs.LastsLemmas.{IsPut-table}
use Rattle.im_txn.proofs.lasts.Lasts.put.Goals as goal

pub returns-clause-ok : goal.returns-clause-ok
returns-clause-ok c =
    on_ok_weaker c.put.result
    (λ put. IsPut-table c.args.self.now.tables.items c.reach.new.self.tables.items c.index_mut.result.now c.put.new.self c.args.changes.now c.args.place
    c.in_ok-change.change c.in_ok-change.ensures c.reach.ensures.same c.in_ok-reach.ensures.ok c.index_mut.ensures.value put)
    c.put.ensures.ok
