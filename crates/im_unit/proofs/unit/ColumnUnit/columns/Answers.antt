use Rattle.std.proofs.Common.{map, sym, ap, subst, ◌∙◌}
use Rattle.std.specs.Arc.{arc_value}
use Rattle.std.proofs.lemmas.List.{length-map}
use Rattle.im_unit.specs.Holding.{HaveWidth, columns_of}
use Rattle.im_unit.specs.inner.Kept.{rows_kept}
use Rattle.im_unit.proofs.KeptLemmas.{columns-kept}
use Rattle.im_history.specs.Units.{Content}
use Rattle.im_unit.proofs.UnitLemmas.{wide-kept}
use Rattle.im_unit.proofs.unit.ColumnUnit.columns.Goals as goal

pub returns-clause-values : goal.returns-clause-values
returns-clause-values c =
    let u = c.self.inside in
    let columns = map arc_value u.columns.items in
    ap (map arc_value) c.as_slice.ensures.value
    ∙ (sym (columns-kept u.presence columns _ c.self.invariant.0 (sym (length-map u.columns.items arc_value))) ∙ ap columns_of c.self.view_is)

pub returns-clause-wide : goal.returns-clause-wide
returns-clause-wide c =
    let u = c.self.inside in
    let columns = map arc_value u.columns.items in
    subst (λ (k : Content). HaveWidth k.columns k.rows) c.self.view_is
    (subst (λ n. HaveWidth n (rows_kept u.presence columns)) (length-map u.columns.items arc_value) (wide-kept u.presence columns))
