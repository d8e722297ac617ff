use Rattle.std.proofs.Common.{sym, subst}
use Rattle.im_worker.specs.Background.{Agrees, Kept}
use Rattle.im_worker.proofs.RestLemmas.{agrees-stands}
use Rattle.im_worker.proofs.background.Background.work.Goals as goal

pub job-requires-clause-stands : goal.job-requires-clause-stands
job-requires-clause-stands g c =
    let old = g.H.Reach.known c.args.reach.now in
    agrees-stands _ old (subst (λ (kept : Kept). Agrees kept old) (sym c.self.view_is) c.requires.agrees)
