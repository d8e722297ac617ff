use Rattle.std.proofs.Common.{sym, subst}
use Rattle.im_worker.specs.Background.{Agrees, Kept}
use Rattle.im_worker.proofs.RestLemmas.{agrees-stands}
use Rattle.im_worker.proofs.background.Background.command.Goals as goal

pub play-requires-clause-stands : goal.play-requires-clause-stands
play-requires-clause-stands g c =
    let old = g.H.Reach.known c.args.reach.now in
    agrees-stands _ old (subst (λ (kept : Kept). Agrees kept old) (sym c.self.view_is) c.requires.agrees)
