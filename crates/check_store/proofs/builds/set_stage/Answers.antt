use Rattle.std.proofs.Common.{◌==◌, ◌∙◌, ℕ, refl, sym, ap, subst}
use Rattle.check_store.specs.Going.{WentOn}
use Rattle.check_store.proofs.GoingLemmas.{agrees-went, side-went}
use Rattle.check_store.proofs.UnderWayLemmas.{beside-both, stands-none, went-beside}
use Rattle.check_store.proofs.builds.set_stage.Goals as goal
use Rattle.im_reach.specs.Sides.{Known}
use Rattle.im_session.specs.Sessions.{Agrees}

pub look_on-requires : goal.look_on-requires
look_on-requires g c = record {
  sole = side-went 1 (g.H.Reach.known c.args.store.now) (g.H.Reach.known c.play_each.new.store) c.play_each.ensures.went c.requires.sole;
}

pub build_now-requires-clause-sole : goal.build_now-requires-clause-sole
build_now-requires-clause-sole g c =
    ap (λ (k : Known). k.side) c.look_on.ensures.same
    ∙ side-went 1 (g.H.Reach.known c.args.store.now) (g.H.Reach.known c.play_each.new.store) c.play_each.ensures.went c.requires.sole

pub build_now-requires-clause-stands : goal.build_now-requires-clause-stands
build_now-requires-clause-stands g c =
    let old = g.H.Reach.known c.args.store.now in
    let now = g.H.Reach.known c.look_on.new.store in
    stands-none 17 refl old now c.requires.fresh (went-beside 17 1 refl old now (subst (WentOn 1 old) (sym c.look_on.ensures.same) c.play_each.ensures.went))
    c.look_on.ensures.lawful

pub play_each-requires-2-clause-sole : goal.play_each-requires-2-clause-sole
play_each-requires-2-clause-sole g c κs within =
    side-went 17 (g.H.Reach.known c.look_on.new.store) (g.H.Reach.known c.build_now.new.store) (c.in-Some.ensures c.in-Some._used refl)
    (ap (λ (k : Known). k.side) c.look_on.ensures.same
    ∙ side-went 1 (g.H.Reach.known c.args.store.now) (g.H.Reach.known c.play_each.new.store) c.play_each.ensures.went c.requires.sole)

pub play_each-requires-2-clause-agrees : goal.play_each-requires-2-clause-agrees
play_each-requires-2-clause-agrees g c κs within =
    agrees-went 17 c.play_each.new.session (g.H.Reach.known c.look_on.new.store) (g.H.Reach.known c.build_now.new.store)
    (c.in-Some.ensures c.in-Some._used refl) (ap (λ (n : ℕ). 17 == n) c.play_each.ensures.session)
    (subst (Agrees c.play_each.new.session) (sym c.look_on.ensures.same) c.play_each.ensures.agrees)

pub look_on-requires-2 : goal.look_on-requires-2
look_on-requires-2 g c = record {
  sole =
      side-went 1 (g.H.Reach.known c.build_now.new.store) (g.H.Reach.known c.play_each-2.new.store) c.play_each-2.ensures.went
      (side-went 17 (g.H.Reach.known c.look_on.new.store) (g.H.Reach.known c.build_now.new.store) (c.in-Some.ensures c.in-Some._used refl)
      (ap (λ (k : Known). k.side) c.look_on.ensures.same
      ∙ side-went 1 (g.H.Reach.known c.args.store.now) (g.H.Reach.known c.play_each.new.store) c.play_each.ensures.went c.requires.sole));
}

pub returns-clause-stage : goal.returns-clause-stage
returns-clause-stage g c = record {
  who = c.play_each-2.ensures.session;
  sole =
      ap (λ (k : Known). k.side) c.look_on-2.ensures.same
      ∙ side-went 1 (g.H.Reach.known c.build_now.new.store) (g.H.Reach.known c.play_each-2.new.store) c.play_each-2.ensures.went
      (side-went 17 (g.H.Reach.known c.look_on.new.store) (g.H.Reach.known c.build_now.new.store) (c.in-Some.ensures c.in-Some._used refl)
      (ap (λ (k : Known). k.side) c.look_on.ensures.same
      ∙ side-went 1 (g.H.Reach.known c.args.store.now) (g.H.Reach.known c.play_each.new.store) c.play_each.ensures.went c.requires.sole));
  agrees = subst (Agrees c.play_each-2.new.session) (sym c.look_on-2.ensures.same) c.play_each-2.ensures.agrees;
  lawful = c.look_on-2.ensures.lawful;
}

pub returns-clause-slow : goal.returns-clause-slow
returns-clause-slow g c =
    let old = g.H.Reach.known c.args.store.now in
    let mid = g.H.Reach.known c.look_on.new.store in
    let built = g.H.Reach.known c.build_now.new.store in
    let now = g.H.Reach.known c.look_on-2.new.store in
    stands-none 18 refl old now c.requires.fresh
    (beside-both 18 old mid now (went-beside 18 1 refl old mid (subst (WentOn 1 old) (sym c.look_on.ensures.same) c.play_each.ensures.went))
    (beside-both 18 mid built now (went-beside 18 17 refl mid built (c.in-Some.ensures c.in-Some._used refl))
    (went-beside 18 1 refl built now (subst (WentOn 1 built) (sym c.look_on-2.ensures.same) c.play_each-2.ensures.went))))
    c.look_on-2.ensures.lawful

pub returns-clause-fast : goal.returns-clause-fast
returns-clause-fast g c =
    let old = g.H.Reach.known c.args.store.now in
    let mid = g.H.Reach.known c.look_on.new.store in
    let built = g.H.Reach.known c.build_now.new.store in
    let now = g.H.Reach.known c.look_on-2.new.store in
    stands-none 19 refl old now c.requires.fresh
    (beside-both 19 old mid now (went-beside 19 1 refl old mid (subst (WentOn 1 old) (sym c.look_on.ensures.same) c.play_each.ensures.went))
    (beside-both 19 mid built now (went-beside 19 17 refl mid built (c.in-Some.ensures c.in-Some._used refl))
    (went-beside 19 1 refl built now (subst (WentOn 1 built) (sym c.look_on-2.ensures.same) c.play_each-2.ensures.went))))
    c.look_on-2.ensures.lawful
