use Rattle.std.proofs.Common.{◌≡◌, length, map, subst}
use Rattle.std.specs.Arc.{arc_value}
use Rattle.std.specs.Bool.{OnTrue}
use Rattle.im_history.specs.Units.{Content}
use Rattle.im_unit.specs.Holding.{count_present}
use Rattle.im_unit.proofs.UnitLemmas.{full-kept}
use Rattle.im_unit.proofs.unit.ColumnUnit.is_full.Goals as goal

pub returns : goal.returns
returns c =
    let u = c.self.inside in
    subst (λ (k : Content). OnTrue c.is_full.result (count_present k.rows ≡ length k.rows)) c.self.view_is
    (full-kept u.presence (map arc_value u.columns.items) c.is_full.result c.is_full.ensures)
