use Rattle.std.proofs.Common.{◌≡◌, ◌∙◌, All, ap, sym, subst}
use Rattle.std.specs.List.{AllByRecursion}
use Rattle.std.proofs.lemmas.Result.{IfOk-weaker}
use Rattle.im_history.specs.declared.shown.Lying.{Lying}
use Rattle.im_history.specs.Fetched.{HasNumbers}
use Rattle.im_history.specs.Rows.{present}
use Rattle.im_group.specs.Partials.{partial}
use Rattle.im_scan.specs.Faces.{unit_of}
use Rattle.im_scan.specs.Parts.{MayAsk}
use Rattle.im_scan.specs.inner.Beside.{Beside}
use Rattle.im_scan.specs.inner.LentPieces.{in_lying}
use Rattle.im_scan.specs.inner.Walk.{standing}
use Rattle.im_scan.proofs.BesideLemmas.{fetched-beside}
use Rattle.im_scan.proofs.PartLemmas.{beside-part}
use Rattle.im_scan.proofs.PieceLemmas.{some-inj}
use Rattle.im_scan.proofs.parts.lent_part.Goals as goal
use Rattle.im_scan.specs.inner.Steps.{as_shown}

pub standing_part-requires-clause-beside_fits : goal.standing_part-requires-clause-beside_fits
standing_part-requires-clause-beside_fits c =
    let bound = c.args.asking.now in
    let same : c.as_slice.result.now ≡ c.args.fetched.now = c.as_slice.ensures.value ∙ c.in_ok-rows.ensures in
    subst (λ (l : Beside). AllByRecursion (λ row. MayAsk bound row.1) l) (sym same) c.requires.fits.fetched_fits

pub returns : goal.returns
returns c =
    let unit = unit_of c.args.face in
    let fetched = c.args.fetched.now in
    let view = as_shown c.args.view.now in
    let first = c.args.first in
    let count = c.args.count in
    let rows = c.in_ok-rows.rows in
    IfOk-weaker c.standing_part.result _ _
    (λ found some part is. some part is
    ∙ ap (partial c.args.asking.now)
    (ap (λ slice. present (standing unit slice) first count) c.as_slice.ensures.value
    ∙ beside-part unit fetched view first count rows.items
    (fetched-beside fetched view first count rows.items (c.has_own.ensures c.if-has_own.false) c.in_ok-rows.ensures)))
    c.standing_part.ensures

pub standing_part-requires-clause-lie : goal.standing_part-requires-clause-lie
standing_part-requires-clause-lie c pieces is =
    let same : c.as_slice.result.now ≡ c.args.fetched.now = c.as_slice.ensures.value ∙ c.in_ok-rows.ensures in
    subst (λ (lying : Lying). All HasNumbers lying.pieces.now × (in_lying lying ≡ c.as_slice.result.now)) (some-inj is)
    (c.lying.ensures.numbers, c.lying.ensures.rows ∙ sym same)
