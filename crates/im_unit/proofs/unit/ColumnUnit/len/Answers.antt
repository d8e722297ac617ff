use Rattle.std.proofs.Common.{◌∙◌, length, map, sym, ap}
use Rattle.std.specs.Arc.{arc_value}
use Rattle.im_history.specs.Units.{Content}
use Rattle.im_unit.proofs.KeptLemmas.{length-kept}
use Rattle.im_unit.proofs.unit.ColumnUnit.len.Goals as goal

pub returns-clause-len : goal.returns-clause-len
returns-clause-len c =
    let u = c.self.inside in
    c.len.ensures.len ∙ (sym (length-kept u.presence (map arc_value u.columns.items)) ∙ ap (λ (k : Content). length k.rows) c.self.view_is)
