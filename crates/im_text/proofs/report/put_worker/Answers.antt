use Rattle.std.proofs.Common.{codes, decimal, ◌∷◌, []}
use Rattle.im_text.specs.Report.{end_fields, place_field}
use Rattle.im_text.proofs.PageLemmas.{adds-fields, adds-one, ends-ok}
use Rattle.im_text.proofs.report.put_worker.Goals as goal

pub returns : goal.returns
returns c =
    let who = decimal c.args.who in
    let end = end_fields c.args.over c.args.lacks in
    let number = rw c.from.ensures at c.in_ok-put_each_number.ensures in
    let ended = adds-fields _ _ _ (who ∷ []) end number c.in_ok-put_ending_word.ensures in
    let fields = adds-one _ _ _ (who ∷ end) (place_field c.args.place) ended c.in_ok-put_place.ensures in
    ends-ok _ _ _ _ _ (codes "worker") _ c.in_ok-begin_with.ensures fields c.end.ensures
