use Rattle.std.proofs.Common.{codes}
use Rattle.im_text.proofs.PageLemmas.{ends-ok}
use Rattle.im_text.proofs.report.put_at.Goals as goal

pub returns : goal.returns
returns c =
    ends-ok _ _ _ _ _ (codes "at") _ c.in_ok-begin_with.ensures c.in_ok-put_each_number.ensures c.end.ensures
