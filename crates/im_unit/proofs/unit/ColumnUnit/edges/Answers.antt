use Rattle.std.proofs.Common.{map, sym, ap, ◌∙◌}
use Rattle.std.specs.Arc.{arc_value}
use Rattle.std.proofs.lemmas.List.{length-map}
use Rattle.im_index.specs.Bounds.{bounds_of}
use Rattle.im_unit.specs.Holding.{edges_of}
use Rattle.im_unit.proofs.KeptLemmas.{columns-kept}
use Rattle.im_unit.proofs.unit.ColumnUnit.edges.Goals as goal

pub returns : goal.returns
returns c =
    let u = c.self.inside in
    let columns = map arc_value u.columns.items in
    c.as_slice.ensures.value
    ∙ (c.self.invariant.3
    ∙ (ap (map bounds_of) (sym (columns-kept u.presence columns _ c.self.invariant.0 (sym (length-map u.columns.items arc_value)))) ∙ ap edges_of c.self.view_is))
