use Rattle.std.proofs.Common.{arith, refl}
use Rattle.im_txn.specs.Activity.{without_cursor}
use Rattle.im_txn.proofs.StandingLemmas.{Turns-counted, Turns-becomes, shut-turns, owed-part}
use Rattle.im_txn.proofs.sessions.Sessions.shut.Goals as goal

pub overflow_sub-self : goal.overflow_sub-self
overflow_sub-self c =
    omega (arith, owed-part _ c.index.result c.index_mut.result.now c.self.invariant c.index.ensures.few c.index_mut.ensures.value, c.shut-fewer.ensures.fewer)

pub invariant_of-self : goal.invariant_of-self
invariant_of-self c =
    Turns-counted _ _ _ _ c.self.inside.locks _ (shut-turns _ c.index.result c.args.cursor c.index_mut.result.now c.shut-fewer.new.self c.shut-fewer.result
    c.self.invariant c.index.ensures.few c.index_mut.ensures.value c.shut-fewer.ensures.after c.shut-fewer.ensures.fewer)

pub returns : goal.returns
returns c =
    let turns =
    shut-turns _ c.index.result c.args.cursor c.index_mut.result.now c.shut-fewer.new.self c.shut-fewer.result c.self.invariant c.index.ensures.few
    c.index_mut.ensures.value c.shut-fewer.ensures.after c.shut-fewer.ensures.fewer in
    rw (← c.index.ensures.same, ← c.self.view_is) (record {
      activity =
          Turns-becomes _ _ _ _ c.self.inside.locks _ (without_cursor c.args.cursor) turns c.shut-fewer.ensures.after;
      locks = refl;
    })
