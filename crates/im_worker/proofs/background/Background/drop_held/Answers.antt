use Rattle.std.proofs.Common.{sym, subst}
use Rattle.im_worker.specs.Background.{Agrees, Kept}
use Rattle.im_worker.proofs.ForCallers.{agrees-stands}
use Rattle.im_worker.proofs.background.Background.drop_held.Goals as goal

pub drop_builds-requires-clause-stands : goal.drop_builds-requires-clause-stands
drop_builds-requires-clause-stands g c =
    let old = g.H.Reach.known c.args.reach.now in
    agrees-stands _ old (subst (λ (kept : Kept). Agrees kept old) (sym c.self.view_is) c.requires.agrees)
