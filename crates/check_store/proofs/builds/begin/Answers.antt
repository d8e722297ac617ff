use Rattle.std.proofs.Common.{◌≡◌, ap, subst}
use Rattle.check_store.specs.Going.{IsUnderWay}
use Rattle.check_store.proofs.GoingLemmas.{went-added}
use Rattle.check_store.proofs.UnderWayLemmas.{begun-under_way, beside-none}
use Rattle.check_store.proofs.builds.begin.Goals as goal
use Rattle.im_reach.specs.Sides.{Offered, StoreSide, speaks}

pub returns-in-Task-clause-under_way : goal.returns-in-Task-clause-under_way
returns-in-Task-clause-under_way g c = λ task is.
    let old = g.H.Reach.known c.args.store.now in
    let mid = g.H.Reach.known c.build.new.self in
    let offered = subst (Offered old mid c.args.who) c.in-Task.is c.in-Ok.ensures.ok in
    let same : c.in-Task.task ≡ task = cc in
    subst (λ t. IsUnderWay c.args.who t mid) same
    (begun-under_way c.args.who old mid mid c.in-Task.task offered.0 (ap (λ (s : StoreSide). speaks s c.args.who) c.requires.sole)
    c.in-Ok.ensures.lawful c.requires.stands offered.1 (beside-none c.args.who mid))

pub returns-in-Task-clause-went : goal.returns-in-Task-clause-went
returns-in-Task-clause-went g c = λ task is.
    let old = g.H.Reach.known c.args.store.now in
    let mid = g.H.Reach.known c.build.new.self in
    let offered = subst (Offered old mid c.args.who) c.in-Task.is c.in-Ok.ensures.ok in
    went-added old mid c.args.who _ _ c.requires.sole offered.1
