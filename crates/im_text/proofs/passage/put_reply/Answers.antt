use Rattle.std.proofs.Common.{[]}
use Rattle.im_text.specs.Bodies.{records_of}
use Rattle.im_text.specs.Replies.{reply_text}
use Rattle.im_text.proofs.PageLemmas.{ends-none, shows-reply}
use Rattle.im_text.proofs.passage.put_reply.Goals as goal

pub returns : goal.returns
unfolding reply_text
returns c =
    shows-reply _ c.args.page.now _ _ _ c.args.line [] (records_of c.args.body.now) c.turn_to.ensures.same c.turn_to.ensures.line
    (ends-none _ c.turn_to.ensures.between) c.put_body.ensures
