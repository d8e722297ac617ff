use Rattle.std.proofs.Common.{◌++◌, ◌∙◌, List, length, map, Some, sym, ap, arith}
use Rattle.std.specs.Arc.{arc_value}
use Rattle.im_values.specs.declared.content.Content.{Content as Value}
use Rattle.im_history.specs.Units.{Content}
use Rattle.im_unit.specs.Holding.{row_of, spot_of}
use Rattle.im_unit.specs.inner.Kept.{row_across}
use Rattle.im_unit.proofs.RankLemmas.{at-spot}
use Rattle.im_unit.proofs.unit.ColumnUnit.read.Goals as goal

pub push_row-requires-clause-inside : goal.push_row-requires-clause-inside
push_row-requires-clause-inside c =
    let u = c.self.inside in
    let at = at-spot u.scn u.first (length u.columns.items) u.presence (map arc_value u.columns.items) c.args.rid c.in-Some.spot
    (c.in-Some.ensures ∙ ap (λ (k : Content). spot_of k c.args.rid) (sym c.self.view_is)) in
    omega (arith, at.inside, c.count.ensures.count)

pub returns : goal.returns
returns c =
    let u = c.self.inside in
    let spot = c.in-Some.spot in
    let at = at-spot u.scn u.first (length u.columns.items) u.presence (map arc_value u.columns.items) c.args.rid spot
    (c.in-Some.ensures ∙ ap (λ (k : Content). spot_of k c.args.rid) (sym c.self.view_is)) in
    ap Some
    (c.in_ok-push_row.ensures
    ∙ (ap (λ (l : List Value). l ++ row_across (map arc_value c.as_slice.result.now) spot) c.clear.ensures.items
    ∙ ap (λ slice. row_across (map arc_value slice) spot) c.as_slice.ensures.value))
    ∙ (at.row ∙ ap (λ (k : Content). row_of k c.args.rid) c.self.view_is)
