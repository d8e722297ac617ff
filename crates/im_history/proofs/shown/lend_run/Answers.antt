use Rattle.im_history.proofs.FetchedLaws.{lent-next}
use Rattle.im_history.proofs.shown.lend_run.Goals as goal

pub loop-at-preserved : goal.loop-at-preserved
loop-at-preserved c =
    lent-next c.args.rows.now.items c.loop-at.rows.items c.push.new.self.items c.args.first c.args.run.now c.loop-at.at c.values.result
    c.values.ensures c.loop-at.invariant c.in_ok-push.ensures.items
