-- What a unit holds, by its flags and columns.
use Rattle.std.proofs.Common.{◌≡◌, ℕ, ◌+◌, ◌-◌, ◌*◌, ◌<◌, ◌≤◌, Bool, true, false, if◌then◌else◌, List, [], ◌∷◌, length, take, map, get_or, Option, Some, None, refl, sym, ap, ◌∙◌, subst, arith}
use Rattle.std.specs.Prelude.{is_some, nat_lt, sum_by}
use Rattle.std.specs.Int.{div_ceil}
use Rattle.std.specs.Bool.{OnTrue}
use Rattle.std.specs.List.{AllByRecursion, range_with_len}
use Rattle.std.specs.Option.{ForSome}
use Rattle.std.proofs.lemmas.Bool.Decides.{nat_tests}
use Rattle.std.proofs.lemmas.List.{get_or_past, length-map}
use Rattle.im_values.specs.declared.content.Content.{Content as Value}
use Rattle.im_values.specs.declared.content.Content.TheVariants.{Null}
use Rattle.im_values.specs.Sizes.{column_bytes}
use Rattle.im_history.specs.Rows.{Row}
use Rattle.im_history.specs.Units.{Content}
use Rattle.im_unit.specs.Holding.{HaveWidth, count_present, present_rows, values_in, unit_bytes, row_of}
use Rattle.im_unit.specs.inner.Kept.{count_set, spread, row_across, rows_across, rows_kept, content_kept, HaveLength, AreRows, AreBounded}
use Rattle.im_unit.proofs.KeptLemmas.{length-across, length-columns, columns-long, length-present, length-kept, present-kept, columns-kept, at-kept, kept-back}
use Rattle.im_unit.proofs.BuildLemmas.{bounded}

-- ---- what is read

count-rows : (rows : List (Option Row)) → count_present rows ≡ length (present_rows rows)
count-rows [] = refl
count-rows (None ∷ rows) = count-rows rows
count-rows (Some row ∷ rows) = let more = count-rows rows in omega (arith, more)

pub count-kept : (flags : List Bool) (columns : List (List Value)) → count_set flags ≡ count_present (rows_kept flags columns)
count-kept flags columns =
    sym (count-rows (rows_kept flags columns) ∙ (ap length (present-kept flags columns) ∙ length-across columns (count_set flags)))

pub bytes-kept : (scn first width : ℕ) (flags : List Bool) (columns : List (List Value)) (bytes : ℕ) → HaveLength (count_set flags) columns →
    width ≡ length columns → bytes ≡ 8 * div_ceil (length flags) 64 + sum_by column_bytes columns →
    bytes ≡ unit_bytes (content_kept scn first width flags columns)
bytes-kept scn first width flags columns bytes long wide is =
    is
    ∙ (ap (λ (n : ℕ). 8 * div_ceil n 64 + sum_by column_bytes columns) (sym (length-kept flags columns))
    ∙ ap (λ (c : List (List Value)). 8 * div_ceil (length (rows_kept flags columns)) 64 + sum_by column_bytes c)
    (sym (columns-kept flags columns width long wide)))

pub row-before : (content : Content) (rid : ℕ) → rid < content.first → None ≡ row_of content rid
row-before content rid before =
    let test : nat_lt rid content.first ≡ true = grind (arith, nat_tests) in
    ap (λ (b : Bool). if b then None else get_or content.rows (rid - content.first) None) (sym test)

row-from : (content : Content) (rid : ℕ) → content.first ≤ rid → get_or content.rows (rid - content.first) None ≡ row_of content rid
row-from content rid from =
    let test : nat_lt rid content.first ≡ false = grind (arith, nat_tests) in
    ap (λ (b : Bool). if b then None else get_or content.rows (rid - content.first) None) (sym test)

-- the row at a row number from the first on
pub row-kept : (scn first width : ℕ) (flags : List Bool) (columns : List (List Value)) (rid : ℕ) (b : Bool) → first ≤ rid →
    b ≡ get_or flags (rid - first) false →
    (if b then Some (row_across columns (count_set (take (rid - first) flags))) else None) ≡ row_of (content_kept scn first width flags columns) rid
row-kept scn first width flags columns rid b from is =
    ap (λ (f : Bool). if f then Some (row_across columns (count_set (take (rid - first) flags))) else None) is
    ∙ (sym (at-kept flags columns (rid - first)) ∙ row-from (content_kept scn first width flags columns) rid from)

pub row-past : (scn first width : ℕ) (flags : List Bool) (columns : List (List Value)) (rid : ℕ) → first ≤ rid → length flags ≤ rid - first →
    None ≡ row_of (content_kept scn first width flags columns) rid
row-past scn first width flags columns rid from past =
    row-kept scn first width flags columns rid false from (sym (get_or_past flags (rid - first) false past))

-- a row is present where its flag is set
pub some-if : (b : Bool) (row : Row) → b ≡ is_some (if b then Some row else None)
some-if true row = refl
some-if false row = refl

-- all are present where all flags are set
pub full-kept : (flags : List Bool) (columns : List (List Value)) (b : Bool) → OnTrue b (count_set flags ≡ length flags) →
    OnTrue b (count_present (rows_kept flags columns) ≡ length (rows_kept flags columns))
full-kept flags columns true all = sym (count-kept flags columns) ∙ (all ∙ sym (length-kept flags columns))
full-kept flags columns false all = all

-- what holds of rows holds of them where they are put
spread-each : (P : Row → Type 0) (flags : List Bool) (rows : List Row) → AllByRecursion P rows → AllByRecursion (λ row. ForSome row P) (spread flags rows)
spread-each P [] rows all = tt
spread-each P (false ∷ flags) rows all = (λ row is. absurd cc, spread-each P flags rows all)
spread-each P (true ∷ flags) [] all = (λ row is. absurd cc, spread-each P flags [] tt)
spread-each P (true ∷ flags) (row ∷ rows) all =
    (λ other is. let same : row ≡ other = cc in subst P same all.0, spread-each P flags rows all.1)

across-wide : (columns : List (List Value)) (spots : List ℕ) → AllByRecursion (λ row. length row ≡ length columns) (map (row_across columns) spots)
across-wide columns [] = tt
across-wide columns (spot ∷ spots) = (length-map columns (λ (column : List Value). get_or column spot Null), across-wide columns spots)

-- each row has a value of each column
pub wide-kept : (flags : List Bool) (columns : List (List Value)) → HaveWidth (length columns) (rows_kept flags columns)
unfolding rows_kept
wide-kept flags columns =
    spread-each (λ (row : Row). length row ≡ length columns) flags (rows_across columns (count_set flags))
    (across-wide columns (range_with_len 0 (count_set flags)))

-- ---- what is built

pub record IsBuilt (width : ℕ) (rows : List (Option Row)) (flags : List Bool) (columns : List (List Value)) : Type 0 where
  pub long : HaveLength (count_set flags) columns
  pub wide : length columns ≡ width
  pub back : rows_kept flags columns ≡ rows
  pub bounded : AreBounded columns

pub built : (width : ℕ) (rows : List (Option Row)) (flags : List Bool) (columns : List (List Value)) → AreRows width (present_rows rows) →
    flags ≡ map is_some rows → columns ≡ map (λ column. values_in column (present_rows rows)) (range_with_len 0 width) → IsBuilt width rows flags columns
built width rows flags columns are is_flags is_columns =
    subst (λ (f : List Bool). IsBuilt width rows f columns) (sym is_flags)
    (subst (λ (c : List (List Value)). IsBuilt width rows (map is_some rows) c) (sym is_columns) record {
      long = columns-long width (present_rows rows) (count_set (map is_some rows)) (length-present rows);
      wide = length-columns width (present_rows rows);
      back = kept-back width rows are.wide;
      bounded = bounded width (present_rows rows) are;
    })

-- what is read back is what is kept
pub spread-kept : (flags : List Bool) (read columns : List (List Value)) (count : ℕ) → read ≡ columns → count ≡ count_set flags →
    spread flags (rows_across read count) ≡ rows_kept flags columns
unfolding rows_kept
spread-kept flags read columns count same is =
    ap (λ (c : List (List Value)). spread flags (rows_across c count)) same ∙ ap (λ (n : ℕ). spread flags (rows_across columns n)) is
