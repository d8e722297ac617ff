use Rattle.std.proofs.Common.{◌∙◌, map, ap}
use Rattle.std.specs.Arc.{arc_value}
use Rattle.std.proofs.lemmas.Result.{IfOk-weaker}
use Rattle.im_history.specs.Units.{Content}
use Rattle.im_unit.specs.inner.Kept.{rows_across, spread}
use Rattle.im_unit.proofs.KeptLemmas.{length-across}
use Rattle.im_unit.proofs.ReadLemmas.{spread-full}
use Rattle.im_unit.proofs.UnitLemmas.{spread-kept}
use Rattle.im_unit.proofs.unit.ColumnUnit.rows.Goals as goal

pub slots_of-requires : goal.slots_of-requires
slots_of-requires c = record {
  long = rw (c.as_slice-columns.ensures.value, c.count-count.ensures.count) c.self.invariant.0;
  few_rows = c.count-count.ensures.few;
  few_columns = rw c.as_slice-columns.ensures.value c.self.invariant.1;
}

pub returns-then-is_full : goal.returns-then-is_full
returns-then-is_full c =
    let u = c.self.inside in
    let read = map arc_value c.as_slice-columns.result.now in
    let count = c.count-count.result in
    let many = length-across read count ∙ c.count-count.ensures.count in
    IfOk-weaker c.slots_of.result _ _
    (λ slots is. is
    ∙ (spread-full u.presence (rows_across read count) c.if-is_full.ensures many
    ∙ (spread-kept u.presence read (map arc_value u.columns.items) count (ap (map arc_value) c.as_slice-columns.ensures.value) c.count-count.ensures.count
    ∙ ap (λ (k : Content). k.rows) c.self.view_is))) c.slots_of.ensures

pub rows_of-requires : goal.rows_of-requires
rows_of-requires c = record {
  long = rw (c.as_slice-columns.ensures.value, c.count-count.ensures.count) c.self.invariant.0;
  few_rows = c.count-count.ensures.few;
  few_columns = rw c.as_slice-columns.ensures.value c.self.invariant.1;
}

pub returns : goal.returns
returns c =
    let u = c.self.inside in
    IfOk-weaker c.spread_rows.result _ _
    (λ rows is. is
    ∙ (ap (spread u.presence) c.in_ok-rows.ensures
    ∙ (spread-kept u.presence (map arc_value c.as_slice-columns.result.now) (map arc_value u.columns.items) c.count-count.result
    (ap (map arc_value) c.as_slice-columns.ensures.value) c.count-count.ensures.count
    ∙ ap (λ (k : Content). k.rows) c.self.view_is))) c.spread_rows.ensures
