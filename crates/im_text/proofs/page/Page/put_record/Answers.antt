use Rattle.im_text.proofs.PageLemmas.{whole-ok}
use Rattle.im_text.proofs.page.Page.put_record.Goals as goal

pub returns : goal.returns
returns c = whole-ok _ _ _ _ _ _ c.in_ok-begin.ensures c.in_ok-put_fields.ensures c.end.ensures
