use Rattle.std.proofs.Common.{◌∙◌, refl, sym, ap, subst}
use Rattle.check_store.proofs.GoingLemmas.{side-went}
use Rattle.check_store.proofs.SessionLemmas.{agrees-new}
use Rattle.check_store.proofs.UnderWayLemmas.{stands-none, went-beside}
use Rattle.check_store.proofs.builds.serves_both.Goals as goal
use Rattle.im_reach.specs.Sides.{Known}
use Rattle.im_session.specs.Sessions.{Agrees}
use Rattle.check_store.specs.Going.{WentOn}

pub play_each-requires-clause-agrees : goal.play_each-requires-clause-agrees
play_each-requires-clause-agrees g c κs within = rw c.new-session.ensures (agrees-new (g.H.Reach.known c.args.store.now) c.requires.fresh)

pub look_on-requires : goal.look_on-requires
look_on-requires g c = record {
  sole = side-went 1 (g.H.Reach.known c.args.store.now) (g.H.Reach.known c.play_each.new.store) c.play_each.ensures.went c.requires.sole;
}

pub build_behind-requires-clause-sole : goal.build_behind-requires-clause-sole
build_behind-requires-clause-sole g c κs within =
    ap (λ (k : Known). k.side) c.look_on.ensures.same
    ∙ side-went 1 (g.H.Reach.known c.args.store.now) (g.H.Reach.known c.play_each.new.store) c.play_each.ensures.went c.requires.sole

pub build_behind-requires-clause-agrees : goal.build_behind-requires-clause-agrees
build_behind-requires-clause-agrees g c κs within = subst (Agrees c.play_each.new.session) (sym c.look_on.ensures.same) c.play_each.ensures.agrees

pub build_behind-requires-clause-stands : goal.build_behind-requires-clause-stands
build_behind-requires-clause-stands g c κs within =
    let old = g.H.Reach.known c.args.store.now in
    let now = g.H.Reach.known c.look_on.new.store in
    stands-none 17 refl old now c.requires.fresh (went-beside 17 1 refl old now (subst (WentOn 1 old) (sym c.look_on.ensures.same) c.play_each.ensures.went))
    c.look_on.ensures.lawful

pub play-present-requires-clause-sole : goal.play-present-requires-clause-sole
play-present-requires-clause-sole g c κs within = c.build_behind.ensures.sole c.in-Some.used c.in-Some.is

pub play-present-requires-clause-agrees : goal.play-present-requires-clause-agrees
play-present-requires-clause-agrees g c κs within = c.build_behind.ensures.agrees c.in-Some.used c.in-Some.is

pub play-past-requires-clause-sole : goal.play-past-requires-clause-sole
play-past-requires-clause-sole g c κs within =
    side-went 1 (g.H.Reach.known c.build_behind.new.store) (g.H.Reach.known c.play-present.new.store) c.play-present.ensures.went
    (c.build_behind.ensures.sole c.in-Some.used c.in-Some.is)
