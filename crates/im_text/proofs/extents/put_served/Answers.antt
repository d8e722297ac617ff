use Rattle.std.proofs.Common.{codes, decimal, ◌∷◌, []}
use Rattle.im_text.proofs.PageLemmas.{adds-fields, whole-ok}
use Rattle.im_text.proofs.extents.put_served.Goals as goal

pub returns : goal.returns
returns c =
    let fields = adds-fields _ _ _ (codes "served" ∷ decimal c.args.extent ∷ []) _ c.in_ok-put_phrase.ensures c.in_ok-put_how.ensures in
    whole-ok _ _ _ _ _ _ c.in_ok-begin.ensures fields c.end.ensures
