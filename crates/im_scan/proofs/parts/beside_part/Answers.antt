use Rattle.std.proofs.Common.{◌∙◌, ap, sym, subst}
use Rattle.std.specs.List.{AllByRecursion}
use Rattle.std.proofs.lemmas.Result.{IfOk-weaker}
use Rattle.im_history.specs.Rows.{present}
use Rattle.im_group.specs.Partials.{partial}
use Rattle.im_scan.specs.Faces.{unit_of}
use Rattle.im_scan.specs.Parts.{MayAsk}
use Rattle.im_scan.specs.inner.Beside.{Beside}
use Rattle.im_scan.specs.inner.Walk.{standing}
use Rattle.im_scan.proofs.BesideLemmas.{fits-beside}
use Rattle.im_scan.proofs.PartLemmas.{beside-part}
use Rattle.im_scan.proofs.parts.beside_part.Goals as goal
use Rattle.im_scan.specs.inner.Steps.{as_shown}

pub standing_part-requires-clause-beside_fits : goal.standing_part-requires-clause-beside_fits
standing_part-requires-clause-beside_fits c =
    let bound = c.args.asking.now in
    let rows = c.in-Some.rows in
    subst (λ (l : Beside). AllByRecursion (λ row. MayAsk bound row.1) l) (sym c.as_slice.ensures.value)
    (fits-beside bound c.args.fetched.now (as_shown c.args.view.now) c.args.first c.args.count rows.items (c.in_ok-rows.ensures rows c.in-Some.is)
    c.requires.fits.fetched_fits c.requires.fits.own_fits)

pub returns-in-Some : goal.returns-in-Some
returns-in-Some c =
    let unit = unit_of c.args.face in
    let first = c.args.first in
    let count = c.args.count in
    let rows = c.in-Some.rows in
    IfOk-weaker c.standing_part.result _ _
    (λ found some part is. some part is
    ∙ ap (partial c.args.asking.now)
    (ap (λ slice. present (standing unit slice) first count) c.as_slice.ensures.value
    ∙ beside-part unit c.args.fetched.now (as_shown c.args.view.now) first count rows.items (c.in_ok-rows.ensures rows c.in-Some.is)))
    c.standing_part.ensures
