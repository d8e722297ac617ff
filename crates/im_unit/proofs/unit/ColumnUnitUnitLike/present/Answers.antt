use Rattle.std.proofs.Common.{map, ap, ◌∙◌}
use Rattle.std.specs.Arc.{arc_value}
use Rattle.im_history.specs.Units.{Content}
use Rattle.im_unit.specs.Holding.{count_present}
use Rattle.im_unit.proofs.UnitLemmas.{count-kept}
use Rattle.im_unit.proofs.unit.ColumnUnitUnitLike.present.Goals as goal

pub returns-clause-count : goal.returns-clause-count
returns-clause-count c =
    let u = c.self.inside in
    c.count.ensures.count ∙ (count-kept u.presence (map arc_value u.columns.items) ∙ ap (λ (k : Content). count_present k.rows) c.self.view_is)
