use Rattle.std.specs.Arc.{arc_value}
use Rattle.im_unit.specs.Holding.{values_in}
use Rattle.im_unit.specs.inner.Kept.{lent_wide}
use Rattle.im_unit.proofs.BuildLemmas.{mapped-more}
use Rattle.im_unit.proofs.building.columns_of.Goals as goal

pub loop-column-preserved : goal.loop-column-preserved
loop-column-preserved c =
    mapped-more arc_value (λ column. values_in column (lent_wide c.args.defaults.now c.args.rows.now)) c.loop-column.columns.items c.push.new.self.items c.loop-column.column
    c.in_ok-column_of.field-0 c.in_ok-push.ensures.items c.loop-column.invariant c.in_ok-column_of.ensures
