use Rattle.std.proofs.Common.{codes, decimal, ◌∷◌, []}
use Rattle.im_text.proofs.PageLemmas.{adds-fields, ends-ok}
use Rattle.im_text.proofs.report.put_mark.Goals as goal

pub returns : goal.returns
returns c =
    let numbers = decimal c.args.line ∷ decimal c.args.mark.now.place ∷ decimal c.args.mark.now.extent ∷ [] in
    let fields = adds-fields _ _ _ numbers _ c.in_ok-put_each_number.ensures c.in_ok-put_how.ensures in
    ends-ok _ _ _ _ _ (codes "mark") _ c.in_ok-begin_with.ensures fields c.end.ensures
