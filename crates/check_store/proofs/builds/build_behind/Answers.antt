use Rattle.std.proofs.Common.{◌==◌, ◌∙◌, ℕ, refl, sym, ap, subst}
use Rattle.check_store.specs.Going.{IsUnderWay, WentOn}
use Rattle.check_store.proofs.GoingLemmas.{agrees-went, side-went}
use Rattle.check_store.proofs.UnderWayLemmas.{under_way-on, went-beside, where_some}
use Rattle.check_store.proofs.builds.build_behind.Goals as goal
use Rattle.im_reach.specs.Sides.{Known}
use Rattle.im_session.specs.Sessions.{Agrees}

pub play_each-requires-clause-sole : goal.play_each-requires-clause-sole
play_each-requires-clause-sole g c κs within =
    side-went 17 (g.H.Reach.known c.args.store.now) (g.H.Reach.known c.begin.new.store) (c.in-Some.ensures.went c.in-Some.task refl) c.requires.sole

pub play_each-requires-clause-agrees : goal.play_each-requires-clause-agrees
play_each-requires-clause-agrees g c κs within =
    agrees-went 17 c.args.session.now (g.H.Reach.known c.args.store.now) (g.H.Reach.known c.begin.new.store)
    (c.in-Some.ensures.went c.in-Some.task refl) (ap (λ (n : ℕ). 17 == n) c.requires.session) c.requires.agrees

pub look_on-requires : goal.look_on-requires
look_on-requires g c = record {
  sole =
      side-went 1 (g.H.Reach.known c.begin.new.store) (g.H.Reach.known c.play_each.new.store) c.play_each.ensures.went
      (side-went 17 (g.H.Reach.known c.args.store.now) (g.H.Reach.known c.begin.new.store) (c.in-Some.ensures.went c.in-Some.task refl) c.requires.sole);
}

pub finish-requires-clause-sole : goal.finish-requires-clause-sole
finish-requires-clause-sole g c =
    ap (λ (k : Known). k.side) c.look_on.ensures.same
    ∙ side-went 1 (g.H.Reach.known c.begin.new.store) (g.H.Reach.known c.play_each.new.store) c.play_each.ensures.went
    (side-went 17 (g.H.Reach.known c.args.store.now) (g.H.Reach.known c.begin.new.store) (c.in-Some.ensures.went c.in-Some.task refl) c.requires.sole)

pub finish-requires-clause-under_way : goal.finish-requires-clause-under_way
finish-requires-clause-under_way g c =
    subst (IsUnderWay 17 c.in-Some.task) (sym c.look_on.ensures.same)
    (under_way-on 17 c.in-Some.task (g.H.Reach.known c.begin.new.store) (g.H.Reach.known c.play_each.new.store)
    (c.in-Some.ensures.under_way c.in-Some.task refl)
    (went-beside 17 1 refl (g.H.Reach.known c.begin.new.store) (g.H.Reach.known c.play_each.new.store) c.play_each.ensures.went))

pub returns-clause-sole : goal.returns-clause-sole
returns-clause-sole g c = λ used is.
    let now = g.H.Reach.known c.look_on.new.store in
    side-went 17 now (g.H.Reach.known c.finish.new.store)
    (where_some (WentOn 17 now (g.H.Reach.known c.finish.new.store)) c.finish.result (c.used_by.ensures used is) c.finish.ensures)
    (ap (λ (k : Known). k.side) c.look_on.ensures.same
    ∙ side-went 1 (g.H.Reach.known c.begin.new.store) (g.H.Reach.known c.play_each.new.store) c.play_each.ensures.went
    (side-went 17 (g.H.Reach.known c.args.store.now) (g.H.Reach.known c.begin.new.store) (c.in-Some.ensures.went c.in-Some.task refl) c.requires.sole))

pub returns-clause-agrees : goal.returns-clause-agrees
returns-clause-agrees g c = λ used is.
    let now = g.H.Reach.known c.look_on.new.store in
    agrees-went 17 c.play_each.new.session now (g.H.Reach.known c.finish.new.store)
    (where_some (WentOn 17 now (g.H.Reach.known c.finish.new.store)) c.finish.result (c.used_by.ensures used is) c.finish.ensures)
    (ap (λ (n : ℕ). 17 == n) c.play_each.ensures.session)
    (subst (Agrees c.play_each.new.session) (sym c.look_on.ensures.same) c.play_each.ensures.agrees)
