use Rattle.std.proofs.Common.{◌∙◌, Some}
use Rattle.std.proofs.lemmas.Result.{IfOk-weaker}
use Rattle.im_scan.specs.Faces.{unit_of}
use Rattle.im_scan.proofs.ShownLemmas.{may-scan, shown-part}
use Rattle.im_scan.proofs.parts.shown_part.Goals as goal

pub laid_part-requires-clause-fits : goal.laid_part-requires-clause-fits
laid_part-requires-clause-fits c =
    let wide = c.in_ok-unit.ensures.wide c.in-Some.unit c.in-Some.is in
    may-scan c.args.asking.now c.args.view.now (unit_of c.args.face) (Some c.in-Some.unit) c.args.fetched.now wide c.requires.fits

pub laid_part-requires-in-None-clause-fits : goal.laid_part-requires-in-None-clause-fits
laid_part-requires-in-None-clause-fits c =
    let same = c.in_ok-unit.ensures.same c.in-None.is in
    may-scan c.args.asking.now c.args.view.now (unit_of c.args.face) (unit_of c.args.face) c.args.fetched.now same c.requires.fits

pub returns-in-Some : goal.returns-in-Some
returns-in-Some c =
    let wide = c.in_ok-unit.ensures.wide c.in-Some.unit c.in-Some.is in
    IfOk-weaker c.laid_part.result _ _
    (λ part is. is
    ∙ shown-part c.args.asking.now c.args.view.now (unit_of c.args.face) (Some c.in-Some.unit) c.args.fetched.now c.args.first c.args.count wide c.requires.shown)
    c.laid_part.ensures

pub returns-in-None : goal.returns-in-None
returns-in-None c =
    let same = c.in_ok-unit.ensures.same c.in-None.is in
    IfOk-weaker c.laid_part-in-None.result _ _
    (λ part is. is
    ∙ shown-part c.args.asking.now c.args.view.now (unit_of c.args.face) (unit_of c.args.face) c.args.fetched.now c.args.first c.args.count same c.requires.shown)
    c.laid_part-in-None.ensures
