use Rattle.std.proofs.Common.{◌∙◌, ap}
use Rattle.std.proofs.lemmas.Result.{IfOk-weaker}
use Rattle.im_history.specs.Rows.{present}
use Rattle.im_group.specs.Partials.{partial}
use Rattle.im_scan.specs.inner.Walk.{standing}
use Rattle.im_scan.proofs.parts.walked_part.Goals as goal

pub returns : goal.returns
returns c =
    IfOk-weaker c.walked.result _ _
    (λ found some part is. some part is
    ∙ ap (λ u. partial c.args.asking.now (present (standing u c.args.beside.now) c.args.first c.args.count)) c.in_ok-kept.ensures.unit)
    c.walked.ensures
