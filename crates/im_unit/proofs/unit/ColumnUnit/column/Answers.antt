use Rattle.std.proofs.Common.{◌<◌, length, map, sym, ap, ◌∙◌, arith}
use Rattle.std.specs.Arc.{arc_value}
use Rattle.std.proofs.lemmas.List.{get_or-map, length-map}
use Rattle.im_history.specs.Units.{Content}
use Rattle.im_unit.specs.Holding.{present_rows, values_in}
use Rattle.im_unit.proofs.KeptLemmas.{column-kept}
use Rattle.im_unit.proofs.unit.ColumnUnit.column.Goals as goal

pub returns : goal.returns
returns c =
    let u = c.self.inside in
    let columns = map arc_value u.columns.items in
    let one = c.index.result.now in
    let inside : c.args.i < length u.columns.items = omega (arith, ap (λ (k : Content). k.columns) c.self.view_is, c.requires) in
    let within : c.args.i < length columns = omega (arith, length-map u.columns.items arc_value, inside) in
    c.deref.ensures
    ∙ (ap arc_value c.index.ensures
    ∙ (sym (get_or-map arc_value u.columns.items c.args.i one (arc_value one) inside)
    ∙ (column-kept u.presence columns c.args.i (arc_value one) c.self.invariant.0 within
    ∙ ap (λ (k : Content). values_in c.args.i (present_rows k.rows)) c.self.view_is)))
