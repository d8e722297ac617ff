use Rattle.std.proofs.Common.{◌∙◌, sym, ap}
use Rattle.im_history.specs.Rows.{present}
use Rattle.im_group.specs.Partials.{partial}
use Rattle.im_scan.specs.inner.Walk.{standing}
use Rattle.im_scan.proofs.PieceLemmas.{some-inj}
use Rattle.im_scan.proofs.parts.pruned_part.Goals as goal

pub returns-in-Some : goal.returns-in-Some
returns-in-Some c found is =
    sym (some-inj is)
    ∙ (c.in_ok-part.ensures c.in-Some.part c.in-Some.is
    ∙ ap (λ unit. partial c.args.asking.now (present (standing unit c.args.beside.rows.now) c.args.first c.args.count))
    (sym c.requires.pruned))

pub returns-in-None : goal.returns-in-None
returns-in-None c = c.walked_part.ensures
