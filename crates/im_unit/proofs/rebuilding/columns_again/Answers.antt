use Rattle.std.proofs.Common.{◌≡◌, ◌∙◌, [], List, All, length, map, get_or, subst, sym, ap, arith}
use Rattle.std.specs.Arc.{arc_value}
use Rattle.std.proofs.lemmas.List.{length-map}
use denote.Ref.{Bor}
use Rattle.im_values.specs.declared.content.Content.{Content as Value}
use Rattle.im_values.specs.declared.content.Content.TheVariants.{Null}
use Rattle.im_column.specs.Forms.{IsShort}
use Rattle.im_column.specs.Picks.{values_picked}
use Rattle.im_history.specs.Rows.{Row}
use Rattle.im_unit.specs.Holding.{values_in}
use Rattle.im_unit.specs.inner.Kept.{lent_values}
use Rattle.im_unit.proofs.BuildLemmas.{mapped-more, short-in}
use Rattle.im_unit.proofs.PieceLemmas.{column-at}
use Rattle.im_unit.proofs.ReadLemmas.{long-at}
use Rattle.im_unit.proofs.rebuilding.columns_again.Goals as goal

pub column_again-requires-clause-places : goal.column_again-requires-clause-places
column_again-requires-clause-places c = λ k d inside.
    let old = c.args.old.now in
    let fresh = c.args.fresh.now in
    let column = c.loop-column.column in
    let long = long-at arc_value old c.args.count column c.index-old-column.result c.requires.long c.loop-column-test.true c.index-old-column.is in
    let many : length (lent_values c.in_ok-values.values.items) ≡ length fresh =
    ap length c.in_ok-values.ensures ∙ length-map fresh (λ (row : Row). get_or row column Null) in
    omega (
      arith,
      c.requires.places k d inside,
      long,
      many,
      length-map c.in_ok-values.values.items (λ (value : Bor Value). value.now),
      ap length c.as_slice.ensures.value,
    )

pub column_again-requires-clause-short_old : goal.column_again-requires-clause-short_old
column_again-requires-clause-short_old c =
    let old = c.args.old.now in
    let column = c.loop-column.column in
    subst (All IsShort) (column-at arc_value old column c.index-old-column.result c.loop-column-test.true c.index-old-column.is)
    (c.requires.short column [] (omega (arith, length-map old arc_value, c.loop-column-test.true)))

pub column_again-requires-clause-short_fresh : goal.column_again-requires-clause-short_fresh
column_again-requires-clause-short_fresh c =
    subst (All IsShort) (sym (ap lent_values c.as_slice.ensures.value ∙ c.in_ok-values.ensures))
    (short-in (length c.args.old.now) c.args.fresh.now c.loop-column.column c.requires.rows c.loop-column-test.true)

pub loop-column-preserved : goal.loop-column-preserved
loop-column-preserved c =
    let old = c.args.old.now in
    let fresh = c.args.fresh.now in
    let places = c.args.places.now in
    let column = c.loop-column.column in
    mapped-more arc_value (λ column. values_picked (get_or (map arc_value old) column []) (values_in column fresh) places)
    c.loop-column.columns.items c.push.new.self.items column c.in_ok-column_again.field-0 c.in_ok-push.ensures.items c.loop-column.invariant
    (c.in_ok-column_again.ensures
    ∙ (ap (λ (l : List Value). values_picked l (lent_values c.as_slice.result.now) places)
    (sym (column-at arc_value old column c.index-old-column.result c.loop-column-test.true c.index-old-column.is))
    ∙ ap (λ (l : List Value). values_picked (get_or (map arc_value old) column []) l places)
    (ap lent_values c.as_slice.ensures.value ∙ c.in_ok-values.ensures)))
