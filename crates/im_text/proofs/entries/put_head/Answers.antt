use Rattle.std.proofs.Common.{codes, decimal, ◌∷◌, []}
use Rattle.im_text.proofs.PageLemmas.{adds-fields, ends-ok}
use Rattle.im_text.proofs.entries.put_head.Goals as goal

pub returns : goal.returns
returns c =
    let put = rw c.from.ensures at c.in_ok-put_each_number.ensures in
    let numbers = decimal c.args.place ∷ decimal c.args.entry.now.who ∷ [] in
    let fields = adds-fields _ _ _ numbers _ put c.in_ok-put_what.ensures in
    ends-ok _ _ _ _ _ (codes "h") _ c.in_ok-begin_with.ensures fields c.end.ensures
