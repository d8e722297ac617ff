use Rattle.std.proofs.Common.{◌≡◌, length, map, ap, subst, sym, ◌∙◌}
use Rattle.std.specs.List.{AllByRecursion}
use Rattle.im_group.specs.Partials.{partial}
use Rattle.im_scan.specs.Parts.{MayAsk}
use Rattle.im_scan.specs.inner.Beside.{Beside}
use Rattle.im_scan.specs.inner.LentPieces.{in_lent_pieces}
use Rattle.im_scan.specs.inner.Overlaid.{changed_by}
use Rattle.im_scan.specs.inner.Pieces.{AreInOrder, numbered_all}
use Rattle.im_scan.specs.inner.Steps.{as_shown}
use Rattle.im_scan.proofs.OverlaidLemmas.{laid-fits, laid-part}
use Rattle.im_scan.proofs.PieceLemmas.{some-inj}
use Rattle.im_scan.proofs.overlaid.own_part.Goals as goal

pub overlaid-requires-clause-order : goal.overlaid-requires-clause-order
overlaid-requires-clause-order c =
    subst (λ (l : Beside). AreInOrder c.args.first l) (sym (ap in_lent_pieces c.as_slice.ensures.value ∙ c.in_ok-read.ensures.rows))
    (c.are_in_order.ensures c.if-not-are_in_order.false)

pub overlaid-requires-clause-long : goal.overlaid-requires-clause-long
overlaid-requires-clause-long c =
    ap length (ap in_lent_pieces c.as_slice.ensures.value ∙ (c.in_ok-read.ensures.rows ∙ c.lying-lying.ensures.rows)) ∙ c.requires.long

pub part_of_lent-requires-clause-fits : goal.part_of_lent-requires-clause-fits
part_of_lent-requires-clause-fits c =
    let bound = c.args.asking.now in
    let view = as_shown c.args.view.now in
    let fetched = c.args.fetched.now in
    let read : in_lent_pieces c.as_slice.result.now ≡ fetched =
    ap in_lent_pieces c.as_slice.ensures.value ∙ (c.in_ok-read.ensures.rows ∙ c.lying-lying.ensures.rows) in
    let same : in_lent_pieces c.as_slice-2.result.now ≡ map (changed_by view) fetched =
    ap in_lent_pieces c.as_slice-2.ensures.value
    ∙ (c.in_ok-pieces.ensures.laid c.in-Some.pieces c.in-Some.is ∙ ap (map (changed_by view)) read) in
    subst (λ (l : Beside). AllByRecursion (λ row. MayAsk bound row.1) l) (sym same) (laid-fits view bound fetched c.requires.fits)

pub returns : goal.returns
returns c part is =
    let bound = c.args.asking.now in
    let view = as_shown c.args.view.now in
    let fetched = c.args.fetched.now in
    let first = c.args.first in
    let read : in_lent_pieces c.as_slice.result.now ≡ fetched =
    ap in_lent_pieces c.as_slice.ensures.value ∙ (c.in_ok-read.ensures.rows ∙ c.lying-lying.ensures.rows) in
    let same : in_lent_pieces c.as_slice-2.result.now ≡ map (changed_by view) fetched =
    ap in_lent_pieces c.as_slice-2.ensures.value
    ∙ (c.in_ok-pieces.ensures.laid c.in-Some.pieces c.in-Some.is ∙ ap (map (changed_by view)) read) in
    let order : AreInOrder first fetched =
    subst (λ (l : Beside). AreInOrder first l) c.lying-lying.ensures.rows (c.are_in_order.ensures c.if-not-are_in_order.false) in
    sym (some-inj is)
    ∙ (c.in_ok-part.ensures
    ∙ (ap (λ (l : Beside). partial bound (numbered_all l)) same ∙ laid-part view bound first c.args.count fetched order c.requires.long))
