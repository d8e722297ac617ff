use Rattle.std.proofs.Common.{◌==◌, ◌∙◌, ℕ, refl, sym, ap, subst}
use Rattle.check_store.specs.Going.{WentOn}
use Rattle.check_store.proofs.GoingLemmas.{agrees-went, side-went}
use Rattle.check_store.proofs.UnderWayLemmas.{beside-both, stands-on, under_way-on, went-beside}
use Rattle.check_store.proofs.builds.overtake.Goals as goal
use Rattle.im_reach.specs.Sides.{Known}

pub play_each-requires-clause-sole : goal.play_each-requires-clause-sole
play_each-requires-clause-sole g c κs within =
    side-went 20 (g.H.Reach.known c.args.store.now) (g.H.Reach.known c.evict_of.new.store) (c.in-Some.ensures c.in-Some.place refl)
    c.requires.stage.sole

pub play_each-requires-clause-agrees : goal.play_each-requires-clause-agrees
play_each-requires-clause-agrees g c κs within =
    agrees-went 20 c.args.session.now (g.H.Reach.known c.args.store.now) (g.H.Reach.known c.evict_of.new.store)
    (c.in-Some.ensures c.in-Some.place refl) (ap (λ (n : ℕ). 20 == n) c.requires.stage.who) c.requires.stage.agrees

pub look_on-requires : goal.look_on-requires
look_on-requires g c = record {
  sole =
      side-went 1 (g.H.Reach.known c.evict_of.new.store) (g.H.Reach.known c.play_each.new.store) c.play_each.ensures.went
      (side-went 20 (g.H.Reach.known c.args.store.now) (g.H.Reach.known c.evict_of.new.store) (c.in-Some.ensures c.in-Some.place refl)
      c.requires.stage.sole);
}

pub build_now-requires-clause-sole : goal.build_now-requires-clause-sole
build_now-requires-clause-sole g c =
    ap (λ (k : Known). k.side) c.look_on.ensures.same
    ∙ side-went 1 (g.H.Reach.known c.evict_of.new.store) (g.H.Reach.known c.play_each.new.store) c.play_each.ensures.went
    (side-went 20 (g.H.Reach.known c.args.store.now) (g.H.Reach.known c.evict_of.new.store) (c.in-Some.ensures c.in-Some.place refl)
    c.requires.stage.sole)

pub build_now-requires-clause-stands : goal.build_now-requires-clause-stands
build_now-requires-clause-stands g c =
    let old = g.H.Reach.known c.args.store.now in
    let mid = g.H.Reach.known c.evict_of.new.store in
    let now = g.H.Reach.known c.look_on.new.store in
    stands-on 19 refl old now c.requires.stands
    (beside-both 19 old mid now (went-beside 19 20 refl old mid (c.in-Some.ensures c.in-Some.place refl))
    (went-beside 19 1 refl mid now (subst (WentOn 1 mid) (sym c.look_on.ensures.same) c.play_each.ensures.went)))
    c.look_on.ensures.lawful

pub returns-clause-sole : goal.returns-clause-sole
returns-clause-sole g c = λ place is.
    side-went 19 (g.H.Reach.known c.look_on.new.store) (g.H.Reach.known c.build_now.new.store) (c.in-Some-build_now.ensures c.in-Some-build_now._used refl)
    (ap (λ (k : Known). k.side) c.look_on.ensures.same
    ∙ side-went 1 (g.H.Reach.known c.evict_of.new.store) (g.H.Reach.known c.play_each.new.store) c.play_each.ensures.went
    (side-went 20 (g.H.Reach.known c.args.store.now) (g.H.Reach.known c.evict_of.new.store) (c.in-Some.ensures c.in-Some.place refl)
    c.requires.stage.sole))

pub returns-clause-under_way : goal.returns-clause-under_way
returns-clause-under_way g c = λ place is.
    let old = g.H.Reach.known c.args.store.now in
    let mid = g.H.Reach.known c.evict_of.new.store in
    let now = g.H.Reach.known c.look_on.new.store in
    let new = g.H.Reach.known c.build_now.new.store in
    under_way-on 18 c.args.task.now old new c.requires.under_way
    (beside-both 18 old mid new (went-beside 18 20 refl old mid (c.in-Some.ensures c.in-Some.place refl))
    (beside-both 18 mid now new (went-beside 18 1 refl mid now (subst (WentOn 1 mid) (sym c.look_on.ensures.same) c.play_each.ensures.went))
    (went-beside 18 19 refl now new (c.in-Some-build_now.ensures c.in-Some-build_now._used refl))))
