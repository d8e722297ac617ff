use Rattle.std.proofs.Common.{◌∙◌, refl, sym, ap, subst}
use Rattle.check_store.specs.Going.{IsUnderWay, WentOn}
use Rattle.check_store.proofs.GoingLemmas.{side-went, went-both}
use Rattle.check_store.proofs.UnderWayLemmas.{where_some}
use Rattle.check_store.proofs.builds.build_now.Goals as goal
use Rattle.im_reach.specs.Sides.{Known}

pub look_on-requires : goal.look_on-requires
look_on-requires g c = record {
  sole =
      side-went c.args.who (g.H.Reach.known c.args.store.now) (g.H.Reach.known c.begin.new.store) (c.in-Some.ensures.went c.in-Some.task refl)
      c.requires.sole;
}

pub finish-requires-clause-sole : goal.finish-requires-clause-sole
finish-requires-clause-sole g c =
    ap (λ (k : Known). k.side) c.look_on.ensures.same
    ∙ side-went c.args.who (g.H.Reach.known c.args.store.now) (g.H.Reach.known c.begin.new.store) (c.in-Some.ensures.went c.in-Some.task refl)
    c.requires.sole

pub finish-requires-clause-under_way : goal.finish-requires-clause-under_way
finish-requires-clause-under_way g c =
    subst (IsUnderWay c.args.who c.in-Some.task) (sym c.look_on.ensures.same) (c.in-Some.ensures.under_way c.in-Some.task refl)

pub returns : goal.returns
returns g c = λ used is.
    let old = g.H.Reach.known c.args.store.now in
    let mid = g.H.Reach.known c.begin.new.store in
    let now = g.H.Reach.known c.look_on.new.store in
    let new = g.H.Reach.known c.finish.new.store in
    went-both c.args.who old mid new (c.in-Some.ensures.went c.in-Some.task refl)
    (subst (λ (k : Known). WentOn c.args.who k new) c.look_on.ensures.same
    (where_some (WentOn c.args.who now new) c.finish.result (c.used_by.ensures used is) c.finish.ensures))
