use Rattle.im_text.specs.Bodies.{records_of}
use Rattle.im_text.specs.Records.{records_text}
use Rattle.im_text.specs.Replies.{reply_text}
use Rattle.im_text.specs.Report.{line_text, place_records}
use Rattle.im_text.proofs.PageLemmas.{shows-reply}
use Rattle.im_text.proofs.passage.put_line.Goals as goal

pub returns : goal.returns
unfolding line_text reply_text
returns c =
    let before = rw c.items.ensures at c.in_ok-put_places.ensures in
    let places = records_text (place_records c.args.line c.args.reply.now.place c.args.reply.now.marks) in
    shows-reply _ c.args.page.now _ _ _ c.args.line places (records_of c.args.reply.now.body) c.turn_to.ensures.same c.turn_to.ensures.line before
    c.put_body.ensures
