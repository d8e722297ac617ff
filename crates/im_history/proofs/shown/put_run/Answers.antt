use Rattle.im_history.proofs.FetchedLaws.{put-next}
use Rattle.im_history.proofs.shown.put_run.Goals as goal

pub loop-at-preserved : goal.loop-at-preserved
loop-at-preserved c =
    put-next c.args.rows.now.items c.loop-at.rows.items c.push.new.self.items c.args.run.now c.loop-at.at c.in_ok-row.field-0 c.in_ok-row.ensures
    c.loop-at.invariant c.in_ok-push.ensures.items
