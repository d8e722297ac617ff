use Rattle.std.proofs.Common.{◌∙◌, false, length, map, Some, ap, arith}
use Rattle.std.specs.Arc.{arc_value}
use Rattle.im_history.specs.Units.{Content}
use Rattle.im_unit.specs.Holding.{spot_of}
use Rattle.im_unit.specs.inner.Kept.{content_kept}
use Rattle.im_unit.proofs.UnitLemmas.{row-before, row-past, row-kept}
use Rattle.im_unit.proofs.RankLemmas.{spot-none, spot-kept}
use Rattle.im_unit.proofs.unit.ColumnUnit.spot.Goals as goal

pub returns-then-rid-self : goal.returns-then-rid-self
returns-then-rid-self c =
    let first = ap (λ (k : Content). k.first) c.self.view_is in
    spot-none c.args.self.now c.args.rid (row-before c.args.self.now c.args.rid (omega (arith, c.if-rid-self.true, first)))

pub returns-then-place-len : goal.returns-then-place-len
returns-then-place-len c =
    let u = c.self.inside in
    let columns = map arc_value u.columns.items in
    spot-none (content_kept u.scn u.first (length u.columns.items) u.presence columns) c.args.rid
    (row-past u.scn u.first (length u.columns.items) u.presence columns c.args.rid c.if-rid-self.false (omega (arith, c.if-place-len.true, c.len.ensures.len)))
    ∙ ap (λ (k : Content). spot_of k c.args.rid) c.self.view_is

pub returns-then-not-is_present : goal.returns-then-not-is_present
returns-then-not-is_present c =
    let u = c.self.inside in
    let columns = map arc_value u.columns.items in
    spot-none (content_kept u.scn u.first (length u.columns.items) u.presence columns) c.args.rid
    (row-kept u.scn u.first (length u.columns.items) u.presence columns c.args.rid false c.if-rid-self.false c.if-not-is_present.ensures)
    ∙ ap (λ (k : Content). spot_of k c.args.rid) c.self.view_is

pub returns : goal.returns
returns c =
    let u = c.self.inside in
    ap Some c.before-spot.ensures
    ∙ (spot-kept u.scn u.first (length u.columns.items) u.presence (map arc_value u.columns.items) c.args.rid c.if-rid-self.false c.if-not-is_present.ensures
    ∙ ap (λ (k : Content). spot_of k c.args.rid) c.self.view_is)
