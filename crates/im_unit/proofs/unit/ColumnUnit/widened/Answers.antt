use Rattle.std.proofs.Common.{◌≡◌, ◌∙◌, ◌++◌, ℕ, List, Option, length, map, drop, replicate, sym, ap, subst, arith}
use Rattle.std.specs.Arc.{arc_value}
use Rattle.std.specs.Prelude.{Bool}
use Rattle.std.proofs.lemmas.List.{length-map}
use Rattle.im_history.specs.Rows.{Row}
use Rattle.im_history.specs.Units.{Content}
use Rattle.im_unit.specs.Widened.{widened_content}
use Rattle.im_unit.specs.Holding.{AreShort}
use Rattle.im_unit.specs.inner.Kept.{HaveLength, content_kept, count_set, rows_kept}
use Rattle.im_unit.proofs.WidenLemmas.{IsWide, are-wide, columns_wide}
use Rattle.im_unit.proofs.unit.ColumnUnit.widened.Goals as goal
use Rattle.im_unit.proofs.unit.ColumnUnit.widened.Goals.{In_ok-columns}

pub columns_widened-requires-clause-more : goal.columns_widened-requires-clause-more
columns_widened-requires-clause-more c =
    let same = ap length c.as_slice.ensures.value in
    let width = ap (λ (k : Content). k.columns) c.self.view_is in
    omega (arith, same, width, c.requires.more)

-- the columns are the unit's own, and those of the defaults
is_wide : (c : In_ok-columns) → IsWide c.args.defaults.now c.self.inside.presence (map arc_value c.self.inside.columns.items) (map arc_value c.in_ok-columns.columns.items)
is_wide c =
    let u = c.self.inside in
    let defaults = c.args.defaults.now in
    let columns = map arc_value u.columns.items in
    let width = ap (λ (k : Content). k.columns) c.self.view_is in
    let is : map arc_value c.in_ok-columns.columns.items ≡ columns_wide defaults (count_set u.presence) columns =
    c.in_ok-columns.ensures
    ∙ (ap (λ own. map arc_value own ++ map (replicate c.count.result) (drop (length own) defaults)) c.as_slice.ensures.value
    ∙ (ap (λ (n : ℕ). columns ++ map (replicate n) (drop (length u.columns.items) defaults)) c.count.ensures.count
    ∙ ap (λ (n : ℕ). columns ++ map (replicate (count_set u.presence)) (drop n defaults)) (sym (length-map u.columns.items arc_value)))) in
    are-wide defaults u.presence columns (map arc_value c.in_ok-columns.columns.items) is
    (omega (arith, length-map u.columns.items arc_value, width, c.requires.more)) c.requires.short c.self.invariant.0 c.self.invariant.4
    (omega (arith, c.count.ensures.count, c.count.ensures.few))

pub of_parts-requires : goal.of_parts-requires
of_parts-requires c =
    let is = is_wide (goal.at.of_parts-requires c).In_ok-columns in
    let columns = map arc_value c.in_ok-columns.columns.items in
    let here = sym c.in_ok-presence.ensures in
    record {
      long = subst (λ (flags : List Bool). HaveLength (count_set flags) columns) here is.built.long;
      few = omega (arith, length-map c.in_ok-columns.columns.items arc_value, is.built.wide, c.requires.few);
      bounded = is.built.bounded;
      short = subst (λ (flags : List Bool). AreShort (rows_kept flags columns)) here is.short;
    }

pub returns : goal.returns
returns c =
    let is = is_wide (goal.at.returns c).In_ok-columns in
    let u = c.self.inside in
    let defaults = c.args.defaults.now in
    let items = c.in_ok-columns.columns.items in
    let width : length items ≡ length defaults = omega (arith, length-map items arc_value, is.built.wide) in
    c.in_ok-unit.ensures
    ∙ (ap (λ (flags : List Bool). content_kept u.scn u.first (length items) flags (map arc_value items)) c.in_ok-presence.ensures
    ∙ (ap (λ (n : ℕ). content_kept u.scn u.first n u.presence (map arc_value items)) width
    ∙ (ap (λ (l : List (Option Row)). record { scn = u.scn; first = u.first; columns = length defaults; rows = l }) is.built.back
    ∙ ap (widened_content defaults) c.self.view_is)))
