use Rattle.std.proofs.lemmas.Result.{on_ok_weaker}
use Rattle.im_txn.specs.Standing.{HasRoom}
use Rattle.im_txn.proofs.StandingLemmas.{moved, roomier-turns, roomier-grown, HasRoom-grown}
use Rattle.im_txn.proofs.sessions.Sessions.reserve_write.Goals as goal

pub returns : goal.returns
returns c =
    let turns =
    roomier-turns _ c.index.result c.index_mut.result.now c.reserve_write.new.self c.self.invariant c.index.ensures.few c.index_mut.ensures.value
    c.reserve_write.ensures.same c.reserve_write.ensures.few in
    record {
      same = rw (← c.self.view_is) (roomier-grown _ _ _ _ c.reserve.new.self turns c.reserve_write.ensures.same c.reserve.ensures.same);
      ok =
          rw (← c.index.ensures.same) (on_ok_weaker {Q =
          HasRoom (moved (record {
            activities = c.self.inside.sessions.items;
            locks = c.self.inside.locks;
            owed =
                c.self.inside.owed;
          }) c.index.result c.reserve_write.new.self c.reserve.new.self c.self.inside.owed) c.index.result c.args.changes.now} _
          (λ has. HasRoom-grown _ _ c.args.changes.now c.len.result _ _ c.reserve.new.self turns c.reserve_write.ensures.same c.len.ensures
          c.in_ok-reserve_write.ensures.ok c.in_ok-reserve_write.ensures.fits has) c.reserve.ensures.ok);
    }
