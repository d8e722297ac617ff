use Rattle.std.proofs.Common.{◌∙◌}
use Rattle.im_txn.proofs.LeastLaws.{least-next}
use Rattle.im_txn.proofs.cursor.least_scn.Goals as goal

pub loop-cursor-preserved : goal.loop-cursor-preserved
loop-cursor-preserved c =
    least-next c.args.cursors.now c.loop-cursor.cursor-index c.loop-cursor.least c.min-least.result _ c.loop-cursor-test.true c.min-least.ensures
    ∙ c.loop-cursor.invariant
