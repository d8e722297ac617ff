use Rattle.im_history.proofs.LastLaws.{put-last}
use Rattle.im_history.proofs.last.insert.Goals as goal

pub returns-clause-ok : goal.returns-clause-ok
returns-clause-ok c =
    put-last c.args.rows.now.entries c.insert.new.self.entries c.args.rid c.args.row c.in_ok-_replaced.ensures.updates.0
