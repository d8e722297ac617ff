use Rattle.std.proofs.Common.{◌≡◌, ◌∙◌, ◌+◌, ◌<◌, ℕ, List, Option, length, map, sym, ap, subst, arith}
use Rattle.std.specs.Prelude.{is_some}
use Rattle.std.specs.Arc.{arc_value}
use Rattle.std.specs.List.{All}
use Rattle.std.proofs.lemmas.List.{length-map}
use Rattle.im_values.specs.declared.content.Content.{Content as Value}
use Rattle.im_column.specs.Forms.{IsShort}
use Rattle.im_history.specs.Rows.{Row}
use Rattle.im_history.specs.Units.{Content}
use Rattle.im_unit.specs.Holding.{AreShort, HaveWidth, columns_of, count_present, present_rows}
use Rattle.im_unit.specs.Rebuilt.{fetched_rows, rows_with}
use Rattle.im_unit.specs.inner.Kept.{AreRows, content_kept, rows_kept}
use Rattle.im_unit.specs.inner.Planned.{columns_picked, places_in, stock}
use Rattle.im_unit.proofs.ForCallers.{count-present}
use Rattle.im_unit.proofs.KeptLemmas.{are-rows, columns-kept}
use Rattle.im_unit.proofs.PlanLemmas.{IsAgain, again, columns-short, planned-long}
use Rattle.im_unit.proofs.RebuiltLemmas.{length-with, rise-few}
use Rattle.im_unit.proofs.UnitLemmas.{IsBuilt, built, count-kept, wide-kept}
use Rattle.im_unit.proofs.unit.ColumnUnit.rebuild.Goals as goal
use Rattle.im_unit.proofs.unit.ColumnUnit.rebuild.Goals.{After-count}

-- ---- the old unit

old_few : (c : After-count) → length c.args.old.now.rows < 2147483648
old_few c =
    let old = c.args.old.now in
    let fetched = c.args.fetched.now in
    let slots = c.in_ok-slots.slots.items in
    let long = planned-long (stock old.rows fetched) slots (rows_with fetched old.first old.rows) c.in_ok-slots.ensures.planned in
    omega (arith, long, length-with fetched old.first old.rows, c.in_ok-slots.ensures.few)

old_wide : (c : After-count) → HaveWidth c.args.old.now.columns c.args.old.now.rows
old_wide c =
    let u = c.old.inside in
    let columns = map arc_value u.columns.items in
    subst (λ (k : Content). HaveWidth k.columns k.rows) c.old.view_is
    (subst (λ n. HaveWidth n (rows_kept u.presence columns)) (length-map u.columns.items arc_value) (wide-kept u.presence columns))

old_short : (c : After-count) → AreShort c.args.old.now.rows
old_short c = subst (λ (k : Content). AreShort k.rows) c.old.view_is c.old.invariant.4

old_columns : (c : After-count) → map arc_value c.old.inside.columns.items ≡ columns_of c.args.old.now
old_columns c =
    let u = c.old.inside in
    sym (columns-kept u.presence (map arc_value u.columns.items) _ c.old.invariant.0 (sym (length-map u.columns.items arc_value))) ∙ ap columns_of c.old.view_is

-- ---- what is taken from

again_is : (c : After-count) → IsAgain c.args.old.now.columns c.args.old.now.first c.args.old.now.rows c.args.fetched.now c.in_ok-slots.slots.items
again_is c =
    let old = c.args.old.now in
    again old.columns old.first old.rows c.args.fetched.now c.in_ok-slots.slots.items c.in_ok-slots.ensures.planned (old_wide c)
    c.requires.width (old_short c) c.requires.short (old_few c)

places_are : (c : After-count) → c.as_slice-5.result.now ≡ places_in c.in_ok-slots.slots.items
places_are c = c.as_slice-5.ensures.value ∙ (c.in_ok-places.ensures ∙ ap places_in c.as_slice-2.ensures.value)

fresh_are : (c : After-count) → c.as_slice-4.result.now ≡ present_rows (fetched_rows c.args.fetched.now)
fresh_are c = c.as_slice-4.ensures.value ∙ c.in_ok-fresh.ensures

pub columns_again-requires-clause-few : goal.columns_again-requires-clause-few
columns_again-requires-clause-few c =
    let is = again_is (goal.at.columns_again-requires-clause-few c).After-count in
    omega (arith, ap length (places_are (goal.at.columns_again-requires-clause-few c).After-count), is.few)

pub columns_again-requires-clause-places : goal.columns_again-requires-clause-places
columns_again-requires-clause-places c =
    let at = (goal.at.columns_again-requires-clause-places c).After-count in
    let u = c.old.inside in
    let is = again_is at in
    let count = count-kept u.presence (map arc_value u.columns.items) ∙ ap (λ (k : Content). count_present k.rows) c.old.view_is in
    let fresh = ap length (fresh_are at) in
    subst (All (λ place. place < c.count.result + length c.as_slice-4.result.now)) (sym (places_are at))
    (λ k d inside.
    omega (
      arith,
      is.places k d inside,
      c.count.ensures.count,
      count,
      count-present c.args.old.now.rows,
      fresh,
    ))

pub columns_again-requires-clause-short : goal.columns_again-requires-clause-short
columns_again-requires-clause-short c =
    let at = (goal.at.columns_again-requires-clause-short c).After-count in
    let old = c.args.old.now in
    subst (All (λ (column : List Value). All IsShort column)) (sym (ap (map arc_value) c.as_slice-3.ensures.value ∙ old_columns at))
    (columns-short old.columns (present_rows old.rows) (are-rows old.columns old.rows (old_wide at) (old_short at) (old_few at)))

pub columns_again-requires-clause-rows : goal.columns_again-requires-clause-rows
columns_again-requires-clause-rows c =
    let at = (goal.at.columns_again-requires-clause-rows c).After-count in
    let old = c.args.old.now in
    let fetched = c.args.fetched.now in
    let rows = fetched_rows fetched in
    let few = rise-few old.first (old.first + length old.rows) fetched c.requires.within (omega arith) in
    let are : AreRows old.columns (present_rows rows) =
    are-rows old.columns rows c.requires.width c.requires.short
    (omega (arith, few, old_few at, length-map fetched (λ (found : ℕ × Option Row). found.1))) in
    let wide : old.columns ≡ length c.as_slice-3.result.now =
    sym (ap length c.as_slice-3.ensures.value ∙ ap (λ (k : Content). k.columns) c.old.view_is) in
    subst (λ n. AreRows n (c.as_slice-4.result.now)) wide (subst (AreRows old.columns) (sym (fresh_are at)) are)

-- ---- what is built

is_built : (c : After-count) → (columns : List (List Value)) →
    columns ≡ columns_picked (map arc_value c.as_slice-3.result.now) (c.as_slice-4.result.now) c.as_slice-5.result.now →
    IsBuilt c.args.old.now.columns (rows_with c.args.fetched.now c.args.old.now.first c.args.old.now.rows) c.in_ok-presence.presence columns
is_built c columns picked =
    let old = c.args.old.now in
    let fetched = c.args.fetched.now in
    let is = again_is c in
    built old.columns (rows_with fetched old.first old.rows) c.in_ok-presence.presence columns is.are
    (c.in_ok-presence.ensures ∙ (ap (map is_some) c.as_slice.ensures.value ∙ is.flags))
    (picked
    ∙ (ap (λ (l : List (List Value)). columns_picked l (c.as_slice-4.result.now) c.as_slice-5.result.now)
    (ap (map arc_value) c.as_slice-3.ensures.value ∙ old_columns c)
    ∙ (ap (λ (l : List Row). columns_picked (columns_of old) l c.as_slice-5.result.now) (fresh_are c)
    ∙ (ap (columns_picked (columns_of old) (present_rows (fetched_rows fetched))) (places_are c) ∙ is.columns))))

pub of_parts-requires : goal.of_parts-requires
of_parts-requires c =
    let at = (goal.at.of_parts-requires c).After-count in
    let columns = c.in_ok-columns.columns.items in
    let is = is_built at (map arc_value columns) c.in_ok-columns.ensures in
    let again = again_is at in
    record {
      long = is.long;
      few = omega (arith, length-map columns arc_value, is.wide, c.old.invariant.1, ap (λ (k : Content). k.columns) c.old.view_is);
      bounded = is.bounded;
      short = subst AreShort (sym is.back) again.short;
    }

pub returns : goal.returns
returns c =
    let at = (goal.at.returns c).After-count in
    let old = c.args.old.now in
    let u = c.old.inside in
    let columns = c.in_ok-columns.columns.items in
    let is = is_built at (map arc_value columns) c.in_ok-columns.ensures in
    let wide : length columns ≡ old.columns = omega (arith, length-map columns arc_value, is.wide) in
    c.in_ok-unit.ensures
    ∙ (ap (λ (n : ℕ). content_kept c.args.scn u.first n c.in_ok-presence.presence (map arc_value columns)) wide
    ∙ (ap (λ (l : List (Option Row)). record { scn = c.args.scn; first = u.first; columns = old.columns; rows = l }) is.back
    ∙ ap (λ (n : ℕ). record {
      scn = c.args.scn;
      first = n;
      columns = old.columns;
      rows = rows_with c.args.fetched.now old.first old.rows;
    }) (ap (λ (k : Content). k.first) c.old.view_is)))
