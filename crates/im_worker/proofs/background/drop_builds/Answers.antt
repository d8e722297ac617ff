use Rattle.std.proofs.Common.{List, subst}
use Rattle.im_worker.specs.Background.{Ready}
use Rattle.im_worker.specs.inner.Running.{IsDropping}
use Rattle.im_worker.proofs.RunLemmas.{dropping-next}
use Rattle.im_worker.proofs.background.drop_builds.Goals as goal

pub loop-build-preserved : goal.loop-build-preserved
loop-build-preserved g c =
    let old = g.H.Reach.known c.args.reach.now in
    let mid = g.H.Reach.known c.loop-build.reach in
    dropping-next c.args.who c.args.held.now.items c.in-Some.build c.pop_front.new.self.items old mid (g.H.Reach.known c.cancel_build.new.reach)
    c.requires.speaks c.cancel_build.ensures.lawful
    (subst (λ (list : List Ready). IsDropping c.args.who c.args.held.now.items list old mid) c.in-Some.ensures.items c.loop-build.invariant)
    c.cancel_build.ensures.added
