use Rattle.std.proofs.Common.{List, ℕ, Option, sym, ap, subst, ◌∙◌}
use Rattle.im_history.specs.Rows.{Row}
use Rattle.im_group.specs.Partials.{partial}
use Rattle.im_scan.specs.inner.Pieces.{AreInOrder, numbered_all}
use Rattle.im_scan.specs.inner.Steps.{numbered_from}
use Rattle.im_scan.proofs.InPlace.{in-place}
use Rattle.im_scan.proofs.PieceLemmas.{numbered-in-order, some-inj}
use Rattle.im_scan.proofs.in_place.part_in_place.Goals as goal

pub returns-in_ok-part : goal.returns-in_ok-part
returns-in_ok-part c part is =
    let bound = c.args.asking.now in
    let first = c.args.first in
    let fetched = c.args.fetched.now in
    let order : AreInOrder first fetched =
    subst (λ (l : List (ℕ × Option Row)). AreInOrder first l) c.lying-lying.ensures.rows (c.are_in_order.ensures c.if-are_in_order.true) in
    sym (some-inj is)
    ∙ (c.in_ok-part.ensures
    ∙ (ap (λ (l : List (ℕ × Option Row)). partial bound (numbered_all l)) c.lying-lying.ensures.rows
    ∙ (ap (partial bound) (numbered-in-order first fetched order)
    ∙ ap (λ rows. partial bound (numbered_from first rows)) (in-place first fetched order))))
