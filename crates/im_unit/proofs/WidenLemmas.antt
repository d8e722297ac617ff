-- A unit with more columns than it was built with.
use Rattle.std.proofs.Common.{◌≡◌, ℕ, ◌<◌, ◌≤◌, ◌^◌, Bool, true, false, List, [], ◌∷◌, ◌++◌, length, drop, map, get_or, replicate, All, Option, Some, None, refl, sym, ap, subst, ◌∙◌, arith, length-append, length-drop}
use Rattle.std.specs.Prelude.{is_some}
use Rattle.std.specs.Option.{option_map}
use Rattle.std.proofs.lemmas.List.{ext_get_or, get_or-map, get_or-replicate, length-map, length-replicate, map-append}
use Rattle.std.proofs.lemmas.List.Elements.{All-append, All-drop, All-from_recursion}
use Rattle.im_values.specs.declared.content.Content.{Content as Value}
use Rattle.im_values.specs.declared.content.Content.TheVariants.{Null}
use Rattle.im_values.specs.Widened.{widened}
use Rattle.im_column.specs.Forms.{IsShort}
use Rattle.im_history.specs.Rows.{Row}
use Rattle.im_unit.specs.Holding.{AreShort, present_rows}
use Rattle.im_unit.specs.inner.Kept.{AreRows, HaveLength, count_set, row_across, rows_across, rows_kept, spread}
use Rattle.im_unit.proofs.KeptLemmas.{at-across, columns-kept, length-across, present-each, present-kept}
use Rattle.im_unit.proofs.UnitLemmas.{IsBuilt, built, wide-kept}

-- ---- rows across columns and across those of defaults behind them

-- the columns, and behind them one of each default that comes after as many
abbrev pub columns_wide : List Value → ℕ → List (List Value) → List (List Value)
columns_wide defaults count columns = columns ++ map (replicate count) (drop (length columns) defaults)

repeated-at : (count i : ℕ) (values : List Value) → i < count → map (λ column. get_or column i Null) (map (replicate count) values) ≡ values
repeated-at count i [] inside = refl
repeated-at count i (value ∷ values) inside =
    ap (λ (v : Value). v ∷ map (λ column. get_or column i Null) (map (replicate count) values)) (get_or-replicate count i value Null inside)
    ∙ ap (λ (l : List Value). value ∷ l) (repeated-at count i values inside)

across-wide : (defaults : List Value) (count i : ℕ) (columns : List (List Value)) → i < count →
    row_across (columns_wide defaults count columns) i ≡ widened defaults (row_across columns i)
across-wide defaults count i columns inside =
    map-append (λ (column : List Value). get_or column i Null) columns (map (replicate count) (drop (length columns) defaults))
    ∙ (ap (λ (l : List Value). row_across columns i ++ l) (repeated-at count i (drop (length columns) defaults) inside)
    ∙ ap (λ (n : ℕ). row_across columns i ++ drop n defaults) (sym (length-map columns (λ (column : List Value). get_or column i Null))))

rows-wide : (defaults : List Value) (count : ℕ) (columns : List (List Value)) →
    rows_across (columns_wide defaults count columns) count ≡ map (widened defaults) (rows_across columns count)
rows-wide defaults count columns =
    ext_get_or [] (rows_across (columns_wide defaults count columns) count) (map (widened defaults) (rows_across columns count))
    (length-across (columns_wide defaults count columns) count
    ∙ sym (length-map (rows_across columns count) (widened defaults) ∙ length-across columns count))
    (λ i within.
    let inside : i < count = omega (arith, within, length-across (columns_wide defaults count columns) count) in
    at-across (columns_wide defaults count columns) count i inside
    ∙ (across-wide defaults count i columns inside
    ∙ sym (get_or-map (widened defaults) (rows_across columns count) i [] [] (omega (arith, inside, length-across columns count))
    ∙ ap (widened defaults) (at-across columns count i inside))))

spread-mapped : (f : Row → Row) (flags : List Bool) (rows : List Row) → spread flags (map f rows) ≡ map (option_map f) (spread flags rows)
spread-mapped f [] rows = refl
spread-mapped f (false ∷ flags) rows = ap (λ (l : List (Option Row)). None ∷ l) (spread-mapped f flags rows)
spread-mapped f (true ∷ flags) [] = ap (λ (l : List (Option Row)). None ∷ l) (spread-mapped f flags [])
spread-mapped f (true ∷ flags) (row ∷ rows) = ap (λ (l : List (Option Row)). Some (f row) ∷ l) (spread-mapped f flags rows)

-- with the columns of defaults each row is lengthened by these
pub kept-wide : (defaults : List Value) (flags : List Bool) (columns : List (List Value)) →
    rows_kept flags (columns_wide defaults (count_set flags) columns) ≡ map (option_map (widened defaults)) (rows_kept flags columns)
unfolding rows_kept
kept-wide defaults flags columns =
    ap (spread flags) (rows-wide defaults (count_set flags) columns) ∙ spread-mapped (widened defaults) flags (rows_across columns (count_set flags))

-- ---- what is built

length-wide : (defaults : List Value) (count : ℕ) (columns : List (List Value)) → length columns ≤ length defaults →
    length (columns_wide defaults count columns) ≡ length defaults
length-wide defaults count columns more =
    omega (
      arith,
      more,
      length-append columns (map (replicate count) (drop (length columns) defaults)),
      length-map (drop (length columns) defaults) (replicate count),
      length-drop (length columns) defaults,
    )

long-repeated : (count : ℕ) (values : List Value) → HaveLength count (map (replicate count) values)
long-repeated count values i d inside =
    let within : i < length values = omega (arith, inside, length-map values (replicate count)) in
    ap length (get_or-map (replicate count) values i Null d within) ∙ length-replicate count (get_or values i Null)

long-wide : (defaults : List Value) (count : ℕ) (columns : List (List Value)) → HaveLength count columns →
    HaveLength count (columns_wide defaults count columns)
long-wide defaults count columns long =
    All-append (λ column. length column ≡ count) columns (map (replicate count) (drop (length columns) defaults)) long
    (long-repeated count (drop (length columns) defaults))

short-wide : (defaults : List Value) (rows : List (Option Row)) → All IsShort defaults → AreShort rows →
    AreShort (map (option_map (widened defaults)) rows)
short-wide defaults [] short all = tt
short-wide defaults (None ∷ rows) short all = (λ row is. absurd cc, short-wide defaults rows short all.1)
short-wide defaults (Some row ∷ rows) short all = (
  λ wide is.
      let same : widened defaults row ≡ wide = cc in
      subst (All IsShort) same (All-append IsShort row (drop (length row) defaults) (all.0 row refl) (All-drop IsShort (length row) defaults short)),
  short-wide defaults rows short all.1,
)

-- what is built of the columns and those of defaults behind them
pub record IsWide (defaults : List Value) (flags : List Bool) (columns wide : List (List Value)) : Type 0 where
  pub built : IsBuilt (length defaults) (map (option_map (widened defaults)) (rows_kept flags columns)) flags wide
  pub short : AreShort (rows_kept flags wide)

pub are-wide : (defaults : List Value) (flags : List Bool) (columns wide : List (List Value)) → wide ≡ columns_wide defaults (count_set flags) columns →
    length columns ≤ length defaults → All IsShort defaults → HaveLength (count_set flags) columns → AreShort (rows_kept flags columns) →
    count_set flags < 2 ^ 31 → IsWide defaults flags columns wide
are-wide defaults flags columns wide is more short long are few =
    subst (IsWide defaults flags columns) (sym is) (record {
      built = record { long = longer; wide = size; back = back; bounded = made.bounded };
      short = brief;
    })
  where
    all : List (List Value)
    all = columns_wide defaults (count_set flags) columns

    size : length all ≡ length defaults
    size = length-wide defaults (count_set flags) columns more

    longer : HaveLength (count_set flags) all
    longer = long-wide defaults (count_set flags) columns long

    back : rows_kept flags all ≡ map (option_map (widened defaults)) (rows_kept flags columns)
    back = kept-wide defaults flags columns

    brief : AreShort (rows_kept flags all)
    brief = subst AreShort (sym back) (short-wide defaults (rows_kept flags columns) short are)

    rows : AreRows (length all) (present_rows (rows_kept flags all))
    rows = record {
      wide = All-from_recursion (λ (row : Row). length row ≡ length all) (present_rows (rows_kept flags all))
          (present-each (λ (row : Row). length row ≡ length all) (rows_kept flags all) (wide-kept flags all));
      short = All-from_recursion (λ (row : Row). All IsShort row) (present_rows (rows_kept flags all))
          (present-each (λ (row : Row). All IsShort row) (rows_kept flags all) brief);
      few = let many = ap length (present-kept flags all) ∙ length-across all (count_set flags) in omega (arith, many, few);
    }

    made : IsBuilt (length all) (rows_kept flags all) (map is_some (rows_kept flags all)) all
    made = built (length all) (rows_kept flags all) (map is_some (rows_kept flags all)) all rows refl (sym (columns-kept flags all (length all) longer refl))
