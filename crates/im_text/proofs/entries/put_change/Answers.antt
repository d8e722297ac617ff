use Rattle.std.proofs.Common.{codes, decimal, ◌∷◌, []}
use Rattle.im_text.proofs.PageLemmas.{adds-fields, ends-ok}
use Rattle.im_text.proofs.entries.put_change.Goals as goal

pub returns : goal.returns
returns c =
    let put = rw c.from.ensures at c.in_ok-put_each_number.ensures in
    let numbers = decimal c.args.place ∷ decimal c.args.change.table ∷ decimal c.args.change.rid ∷ [] in
    let fields = adds-fields _ _ _ numbers _ put c.in_ok-put_row_change.ensures in
    ends-ok _ _ _ _ _ (codes "c") _ c.in_ok-begin_with.ensures fields c.end.ensures
