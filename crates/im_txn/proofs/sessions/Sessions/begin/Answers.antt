use Rattle.std.proofs.Common.{arith, refl}
use Rattle.im_txn.specs.Activity.{with_mode}
use Rattle.im_txn.proofs.StandingLemmas.{Turns-fits, Turns-counted, Turns-becomes, begin-turns}
use Rattle.im_txn.proofs.sessions.Sessions.begin.Goals as goal

pub overflow_add-self : goal.overflow_add-self
overflow_add-self c =
    let turns =
    begin-turns _ c.index.result c.args.place c.args.mode c.index_mut.result.now c.begin-more.new.self c.begin-more.result c.self.invariant
    c.index.ensures.few c.index_mut.ensures.value c.begin-more.ensures.after c.begin-more.ensures.more in
    omega (arith, Turns-fits _ _ _ _ _ turns)

pub invariant_of-self : goal.invariant_of-self
invariant_of-self c =
    Turns-counted _ _ _ _ c.self.inside.locks _ (begin-turns _ c.index.result c.args.place c.args.mode c.index_mut.result.now c.begin-more.new.self
    c.begin-more.result c.self.invariant c.index.ensures.few c.index_mut.ensures.value c.begin-more.ensures.after c.begin-more.ensures.more)

pub returns : goal.returns
returns c =
    let turns =
    begin-turns _ c.index.result c.args.place c.args.mode c.index_mut.result.now c.begin-more.new.self c.begin-more.result c.self.invariant
    c.index.ensures.few c.index_mut.ensures.value c.begin-more.ensures.after c.begin-more.ensures.more in
    rw (← c.index.ensures.same, ← c.self.view_is) (record {
      activity =
          Turns-becomes _ _ _ _ c.self.inside.locks _ (with_mode c.args.place c.args.mode) turns c.begin-more.ensures.after;
      locks = refl;
    })
