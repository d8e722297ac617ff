use Rattle.std.proofs.Common.{map, decimal}
use Rattle.im_text.proofs.PageLemmas.{more-ok}
use Rattle.im_text.proofs.page.Page.put_phrase.Goals as goal

pub returns : goal.returns
returns c =
    let word = rw c.as_bytes.ensures.value at c.in_ok-put.ensures in
    more-ok _ _ _ _ c.args.word.now (map decimal c.args.numbers.now) word c.put_each_number.ensures
