use Rattle.im_tables.proofs.ForCallers.{IsGrown-refl}
use Rattle.im_txn.proofs.StandingLemmas.{Turns-counted, roomier-turns, roomier-grown, roomier-at}
use Rattle.im_txn.proofs.sessions.Sessions.reserve_cursor.Goals as goal

pub invariant_of-self : goal.invariant_of-self
invariant_of-self c =
    Turns-counted _ _ _ _ c.self.inside.locks _ (roomier-turns _ c.index.result c.index_mut.result.now c.reserve_cursor.new.self c.self.invariant
    c.index.ensures.few c.index_mut.ensures.value c.reserve_cursor.ensures.same c.reserve_cursor.ensures.few)

pub returns : goal.returns
returns c =
    let turns =
    roomier-turns _ c.index.result c.index_mut.result.now c.reserve_cursor.new.self c.self.invariant c.index.ensures.few c.index_mut.ensures.value
    c.reserve_cursor.ensures.same c.reserve_cursor.ensures.few in
    record {
      same = rw (← c.self.view_is) (roomier-grown _ _ _ _ c.self.inside.locks turns c.reserve_cursor.ensures.same (IsGrown-refl 0 c.self.inside.locks));
      ok = rw (← c.index.ensures.same, roomier-at _ _ _ _ c.self.inside.locks turns) c.reserve_cursor.ensures.ok;
    }
