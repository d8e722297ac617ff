use Rattle.std.proofs.Common.{codes, map, decimal, ◌∷◌}
use Rattle.im_text.proofs.PageLemmas.{adds-more, whole-ok}
use Rattle.im_text.proofs.page.Page.refuse_name.Goals as goal

pub returns : goal.returns
returns c =
    let values = c.args.name.now ∷ map decimal c.args.numbers.now in
    let word = rw c.as_bytes-2.ensures.value at c.in_ok-put-3.ensures in
    let code = rw c.as_bytes.ensures.value at c.in_ok-put-2.ensures in
    let from_name = adds-more _ _ _ c.args.name.now (map decimal c.args.numbers.now) c.in_ok-put-4.ensures c.in_ok-put_each_number.ensures in
    let from_word = adds-more _ _ _ c.args.word.now values word from_name in
    let from_code = adds-more _ _ _ c.args.code.now (c.args.word.now ∷ values) code from_word in
    let fields = adds-more _ _ _ (codes "error") (c.args.code.now ∷ c.args.word.now ∷ values) c.in_ok-put.ensures from_code in
    whole-ok _ _ _ _ _ (codes "error" ∷ c.args.code.now ∷ c.args.word.now ∷ values) c.in_ok-begin.ensures fields c.end.ensures
