use Rattle.std.proofs.Common.{◌≡◌, ◌∙◌, ◌^◌, ◌<◌, ℕ, Bool, true, false, List, [], ◌∷◌, Option, Some, None, is_some, length, map, refl, sym, ap, subst, arith}
use Rattle.std.specs.Option.{option_copied, option_map}
use denote.Ref.{Bor}
use Rattle.std.specs.Arc.{arc_value}
use Rattle.std.specs.List.{range_with_len}
use Rattle.std.proofs.lemmas.List.{length-map}
use Rattle.im_values.specs.Widened.{widened}
use Rattle.im_history.specs.Rows.{Row}
use Rattle.im_unit.specs.Holding.{AreShort, lent_slots, values_in, wide_slots}
use Rattle.im_unit.specs.inner.Kept.{AreRows, lent_wide, content_kept}
use Rattle.im_unit.proofs.BuildLemmas.{lent-present}
use Rattle.im_unit.proofs.KeptLemmas.{are-rows}
use Rattle.im_unit.proofs.UnitLemmas.{IsBuilt, built}
use Rattle.im_unit.proofs.unit.ColumnUnit.build_lent.Goals as goal
use Rattle.im_unit.proofs.unit.ColumnUnit.build_lent.Goals.{In_ok-columns}

-- so many slots are lent as there are
few : (defaults : Row) (rows : List (Option (Bor Row))) → length rows < 2 ^ 31 → length (wide_slots defaults rows) < 2 ^ 31
few defaults rows less = omega (arith, length-map (lent_slots rows) (option_map (widened defaults)), length-map rows option_copied, less)

-- which of them are there
are_there : (defaults : Row) (rows : List (Option (Bor Row))) → map is_some rows ≡ map is_some (wide_slots defaults rows)
are_there defaults [] = refl
are_there defaults (None ∷ rows) = ap (λ (l : List Bool). false ∷ l) (are_there defaults rows)
are_there defaults (Some row ∷ rows) = ap (λ (l : List Bool). true ∷ l) (are_there defaults rows)

pub columns_of-requires : goal.columns_of-requires
columns_of-requires c = record {
  rows =
      let defaults = c.args.defaults.now in
      let slots = c.args.rows.now in
      let rows = wide_slots defaults slots in
      subst (AreRows c.args.columns)
      (sym (ap (lent_wide defaults) c.as_slice.ensures.value ∙ lent-present defaults c.in_ok-present.present.items (lent_slots slots) c.in_ok-present.ensures))
      (are-rows c.args.columns rows c.requires.width c.requires.short (few defaults slots c.requires.few_rows));
}

-- what is built stands for the rows
is_built : (c : In_ok-columns) →
    IsBuilt c.args.columns (wide_slots c.args.defaults.now c.args.rows.now) c.in_ok-presence.presence (map arc_value c.in_ok-columns.columns.items)
is_built c =
    let defaults = c.args.defaults.now in
    let slots = c.args.rows.now in
    let rows = wide_slots defaults slots in
    built c.args.columns rows c.in_ok-presence.presence (map arc_value c.in_ok-columns.columns.items)
    (are-rows c.args.columns rows c.requires.width c.requires.short (few defaults slots c.requires.few_rows))
    (c.in_ok-presence.ensures ∙ are_there defaults slots)
    (c.in_ok-columns.ensures
    ∙ ap (λ (l : List Row). map (λ column. values_in column l) (range_with_len 0 c.args.columns))
    (ap (lent_wide defaults) c.as_slice.ensures.value ∙ lent-present defaults c.in_ok-present.present.items (lent_slots slots) c.in_ok-present.ensures))

pub of_parts-requires : goal.of_parts-requires
of_parts-requires c =
    let is = is_built (goal.at.of_parts-requires c).In_ok-columns in
    record {
      long = is.long;
      few = omega (arith, length-map c.in_ok-columns.columns.items arc_value, is.wide, c.requires.few_columns);
      bounded = is.bounded;
      short = subst AreShort (sym is.back) c.requires.short;
    }

pub returns : goal.returns
returns c =
    let columns = c.in_ok-columns.columns.items in
    let is = is_built (goal.at.returns c).In_ok-columns in
    let wide : length columns ≡ c.args.columns = omega (arith, length-map columns arc_value, is.wide) in
    c.in_ok-unit.ensures
    ∙ (ap (λ (n : ℕ). content_kept c.args.scn c.args.first n c.in_ok-presence.presence (map arc_value columns)) wide
    ∙ ap (λ (l : List (Option Row)). record { scn = c.args.scn; first = c.args.first; columns = c.args.columns; rows = l }) is.back)
