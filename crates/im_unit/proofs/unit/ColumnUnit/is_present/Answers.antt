use Rattle.std.proofs.Common.{◌∙◌, length, map, take, get_or, None, false, sym, ap, arith}
use Rattle.std.specs.Prelude.{is_some}
use Rattle.std.specs.Arc.{arc_value}
use Rattle.im_history.specs.Units.{Content}
use Rattle.im_unit.specs.inner.Kept.{count_set, row_across}
use Rattle.im_unit.proofs.KeptLemmas.{at-kept, length-kept}
use Rattle.im_unit.proofs.UnitLemmas.{some-if}
use Rattle.im_unit.proofs.unit.ColumnUnit.is_present.Goals as goal

pub is_present-requires : goal.is_present-requires
is_present-requires c =
    let u = c.self.inside in
    omega (arith, c.requires, ap (λ (k : Content). length k.rows) c.self.view_is, length-kept u.presence (map arc_value u.columns.items))

pub returns : goal.returns
returns c =
    let u = c.self.inside in
    let columns = map arc_value u.columns.items in
    let place = c.args.place in
    c.is_present.ensures
    ∙ (some-if (get_or u.presence place false) (row_across columns (count_set (take place u.presence)))
    ∙ (ap is_some (sym (at-kept u.presence columns place)) ∙ ap (λ (k : Content). is_some (get_or k.rows place None)) c.self.view_is))
