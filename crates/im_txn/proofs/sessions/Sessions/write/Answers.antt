use Rattle.std.proofs.Common.{arith, ap}
use Rattle.im_txn.specs.LockCells.{HasCells}
use Rattle.im_txn.specs.Standing.{Standing}
use Rattle.im_txn.proofs.StandingLemmas.{Turns-fits, Turns-counted, write-turns, written-set}
use Rattle.im_txn.proofs.sessions.Sessions.write.Goals as goal

pub overflow_add-self : goal.overflow_add-self
overflow_add-self c =
    let turns =
    write-turns _ c.index-at.result c.args.place c.args.changes c.index_mut.result.now c.write-more.new.self c.write-more.result c.self.invariant
    c.index-at.ensures.few c.index_mut.ensures.value c.write-more.ensures.after c.write-more.ensures.more in
    omega (arith, Turns-fits _ _ _ _ _ turns)

pub invariant_of-self : goal.invariant_of-self
invariant_of-self c =
    Turns-counted _ _ _ _ c.set_all.new.self _ (write-turns _ c.index-at.result c.args.place c.args.changes c.index_mut.result.now
    c.write-more.new.self c.write-more.result c.self.invariant c.index-at.ensures.few c.index_mut.ensures.value c.write-more.ensures.after
    c.write-more.ensures.more)

pub returns : goal.returns
returns c =
    let turns =
    write-turns _ c.index-at.result c.args.place c.args.changes c.index_mut.result.now c.write-more.new.self c.write-more.result c.self.invariant
    c.index-at.ensures.few c.index_mut.ensures.value c.write-more.ensures.after c.write-more.ensures.more in
    let has : HasCells c.self.inside.locks c.args.changes = rw (← ap (λ (s : Standing). s.locks) c.self.view_is) at c.requires.room.cells in
    rw (← c.index-at.ensures.same, ← c.self.view_is) (written-set _ _ c.args.place c.args.changes _ _ c.set_all.new.self _ turns
    c.write-more.ensures.after c.set_all.ensures has)
