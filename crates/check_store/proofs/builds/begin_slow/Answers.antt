use Rattle.std.proofs.Common.{◌∙◌, refl, sym, ap, subst}
use Rattle.check_store.specs.Going.{IsUnderWay}
use Rattle.check_store.proofs.GoingLemmas.{side-went}
use Rattle.check_store.proofs.builds.begin_slow.Goals as goal
use Rattle.im_reach.specs.Sides.{Known}

pub look_on-requires : goal.look_on-requires
look_on-requires g c = record {
  sole =
      side-went 18 (g.H.Reach.known c.args.store.now) (g.H.Reach.known c.begin.new.store) (c.in-Some.ensures.went c.in-Some.task refl) c.requires.sole;
}

pub reads-requires-clause-sole : goal.reads-requires-clause-sole
reads-requires-clause-sole g c =
    ap (λ (k : Known). k.side) c.look_on.ensures.same
    ∙ side-went 18 (g.H.Reach.known c.args.store.now) (g.H.Reach.known c.begin.new.store) (c.in-Some.ensures.went c.in-Some.task refl) c.requires.sole

pub reads-requires-clause-under_way : goal.reads-requires-clause-under_way
reads-requires-clause-under_way g c =
    subst (IsUnderWay 18 c.in-Some.task) (sym c.look_on.ensures.same) (c.in-Some.ensures.under_way c.in-Some.task refl)
