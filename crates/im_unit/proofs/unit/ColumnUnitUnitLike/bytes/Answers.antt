use Rattle.std.proofs.Common.{map, sym, ap, ◌∙◌}
use Rattle.std.specs.Arc.{arc_value}
use Rattle.std.proofs.lemmas.List.{length-map}
use Rattle.im_unit.specs.Holding.{unit_bytes}
use Rattle.im_unit.proofs.UnitLemmas.{bytes-kept}
use Rattle.im_unit.proofs.unit.ColumnUnitUnitLike.bytes.Goals as goal

pub returns : goal.returns
returns c =
    let u = c.self.inside in
    bytes-kept u.scn u.first _ u.presence (map arc_value u.columns.items) u.bytes c.self.invariant.0 (sym (length-map u.columns.items arc_value))
    c.self.invariant.2 ∙ ap unit_bytes c.self.view_is
