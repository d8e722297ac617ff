use Rattle.im_text.proofs.PageLemmas.{says}
use Rattle.im_text.proofs.passage.put_on_page.Goals as goal

pub returns : goal.returns
returns c = says _ c.args.page.now _ _ _ c.in_ok-put_passage.ensures c.flush.ensures.ready c.flush.ensures.same
