use Rattle.std.proofs.Common.{◌==◌, ◌∙◌, ℕ, refl, sym, ap, subst}
use Rattle.check_store.specs.Going.{WentOn}
use Rattle.check_store.proofs.GoingLemmas.{agrees-went, side-went}
use Rattle.check_store.proofs.SessionLemmas.{agrees-new}
use Rattle.check_store.proofs.UnderWayLemmas.{stands-on, went-beside}
use Rattle.check_store.proofs.builds.overtakes.Goals as goal
use Rattle.im_reach.specs.Sides.{Known}
use Rattle.im_session.specs.Sessions.{Agrees}

pub set_stage-requires-clause-agrees : goal.set_stage-requires-clause-agrees
set_stage-requires-clause-agrees g c κs within = rw c.new-session.ensures (agrees-new (g.H.Reach.known c.args.store.now) c.requires.fresh)

pub overtake-requires-clause-stage : goal.overtake-requires-clause-stage
overtake-requires-clause-stage g c κs within =
    let stage = c.if-not-set_stage.ensures.stage in
    let old = g.H.Reach.known c.set_stage.new.store in
    let mid = g.H.Reach.known c.begin_slow.new.store in
    record {
      who = stage.who;
      sole = ap (λ (k : Known). k.side) c.look_on.ensures.same ∙ side-went 18 old mid (c.in-Some.ensures.went c.in-Some.task refl) stage.sole;
      agrees =
          subst (Agrees c.set_stage.new.session) (sym c.look_on.ensures.same)
          (agrees-went 18 c.set_stage.new.session old mid (c.in-Some.ensures.went c.in-Some.task refl) (ap (λ (n : ℕ). 18 == n) stage.who) stage.agrees);
      lawful = c.look_on.ensures.lawful;
    }

pub overtake-requires-clause-stands : goal.overtake-requires-clause-stands
overtake-requires-clause-stands g c κs within =
    let old = g.H.Reach.known c.set_stage.new.store in
    let now = g.H.Reach.known c.look_on.new.store in
    stands-on 19 refl old now c.if-not-set_stage.ensures.fast
    (went-beside 19 18 refl old now (subst (WentOn 18 old) (sym c.look_on.ensures.same) (c.in-Some.ensures.went c.in-Some.task refl))) c.look_on.ensures.lawful
