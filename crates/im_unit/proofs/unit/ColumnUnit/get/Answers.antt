use Rattle.std.proofs.Common.{◌∙◌, length, map, Some, sym, ap, arith}
use Rattle.std.specs.Arc.{arc_value}
use Rattle.im_history.specs.Units.{Content}
use Rattle.im_unit.specs.Holding.{row_of, spot_of}
use Rattle.im_unit.specs.inner.Kept.{row_across}
use Rattle.im_unit.proofs.RankLemmas.{at-spot}
use Rattle.im_unit.proofs.unit.ColumnUnit.get.Goals as goal

pub row_at-requires : goal.row_at-requires
row_at-requires c =
    let u = c.self.inside in
    let at = at-spot u.scn u.first (length u.columns.items) u.presence (map arc_value u.columns.items) c.args.rid c.in-Some.spot
    (c.in-Some.ensures ∙ ap (λ (k : Content). spot_of k c.args.rid) (sym c.self.view_is)) in
    record {
      long = rw (c.as_slice.ensures.value, c.count.ensures.count) c.self.invariant.0;
      inside = omega (arith, at.inside, c.count.ensures.count);
    }

pub returns : goal.returns
returns c =
    let u = c.self.inside in
    let at = at-spot u.scn u.first (length u.columns.items) u.presence (map arc_value u.columns.items) c.args.rid c.in-Some.spot
    (c.in-Some.ensures ∙ ap (λ (k : Content). spot_of k c.args.rid) (sym c.self.view_is)) in
    ap Some (c.in_ok-row.ensures ∙ ap (λ slice. row_across (map arc_value slice) c.in-Some.spot) c.as_slice.ensures.value)
    ∙ (at.row ∙ ap (λ (k : Content). row_of k c.args.rid) c.self.view_is)
