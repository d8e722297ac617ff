use Rattle.std.proofs.Common.{◌∙◌}
use Rattle.im_directory.proofs.HeldLemmas.{least-next}
use Rattle.im_directory.proofs.builds.Builds.least_scn.Goals as goal

pub loop-build-preserved : goal.loop-build-preserved
loop-build-preserved c =
    least-next c.args.most c.loop-build.least c.least_with-least.result c.loop-build.build-index c.deref-build-items.result.now c.args.self.now
    (c.deref-build-items.ensures.value ∙ c.self.view_is) c.loop-build-test.true c.loop-build.invariant c.least_with-least.ensures
