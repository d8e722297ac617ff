use Rattle.std.proofs.Common.{◌∙◌, Option, ap, subst, sym}
use Rattle.std.proofs.lemmas.Result.{IfOk-weaker}
use Rattle.im_history.specs.Rows.{present}
use Rattle.im_history.specs.Units.{Content}
use Rattle.im_group.specs.Partials.{partial}
use Rattle.im_scan.specs.Faces.{unit_of}
use Rattle.im_scan.specs.inner.Steps.{MayScan, as_shown, laid_row}
use Rattle.im_scan.proofs.PartLemmas.{fetched-part}
use Rattle.im_scan.proofs.parts.fetched_part.Goals as goal

pub own_part-requires-clause-fits : goal.own_part-requires-clause-fits
own_part-requires-clause-fits c =
    subst (λ (unit : Option Content). MayScan c.args.asking.now unit c.args.fetched.now (as_shown c.args.view.now).own) (ap unit_of c.in-Bare.is) c.requires.fits

pub returns-then-has_own : goal.returns-then-has_own
returns-then-has_own c =
    IfOk-weaker c.own_part.result _ _
    (λ found some part is. some part is
    ∙ ap (λ (unit : Option Content). partial c.args.asking.now (present (laid_row unit c.args.fetched.now (as_shown c.args.view.now)) c.args.first c.args.count))
    (sym (ap unit_of c.in-Bare.is)))
    c.own_part.ensures

pub returns-else-has_own : goal.returns-else-has_own
returns-else-has_own c =
    IfOk-weaker c.part_in_place.result _ _
    (λ found some part is. some part is
    ∙ fetched-part c.args.asking.now c.args.face c.args.fetched.now (as_shown c.args.view.now) c.args.first c.args.count (ap unit_of c.in-Bare.is)
    (sym c.len.ensures ∙ c.if-len-count.false) (c.has_own.ensures c.if-has_own.false))
    c.part_in_place.ensures
