-- Rows as flags and columns, and back.
use Rattle.std.proofs.Common.{◌≡◌, ℕ, zero, suc, ◌+◌, ◌^◌, ◌<◌, ◌≤◌, Bool, true, false, if◌then◌else◌, List, [], ◌∷◌, length, take, map, get_or, Option, Some, None, refl, sym, ap, ◌∙◌, arith}
use Rattle.std.specs.Prelude.{is_some, cond}
use Rattle.std.specs.List.{All, AllByRecursion, range_with_len}
use Rattle.std.specs.Option.{ForSome}
use Rattle.std.proofs.lemmas.List.{ext_get_or, get_or-map, length-map}
use Rattle.std.proofs.lemmas.List.FromFn.{length-map-range_with_len, get_or-map-range_with_len}
use Rattle.std.proofs.lemmas.List.Elements.{All-from_recursion}
use Rattle.std.proofs.lemmas.List.Sums.{sum_by-cons}
use Rattle.im_values.specs.declared.content.Content.{Content as Value}
use Rattle.im_values.specs.declared.content.Content.TheVariants.{Null}
use Rattle.im_column.specs.Forms.{IsShort}
use Rattle.im_history.specs.Rows.{Row}
use Rattle.im_unit.specs.Holding.{count_present, present_rows, values_in, HaveWidth, AreShort}
use Rattle.im_unit.specs.inner.Kept.{count_set, spread, row_across, rows_across, rows_kept, HaveLength, AreRows}

-- ---- which rows are present

pub set-more : (flags : List Bool) → count_set (true ∷ flags) ≡ 1 + count_set flags
set-more flags = sum_by-cons (λ (flag : Bool). cond flag 1 0) true flags

pub count-flags : (rows : List (Option Row)) → count_set (map is_some rows) ≡ count_present rows
count-flags [] = refl
count-flags (None ∷ rows) = count-flags rows
count-flags (Some row ∷ rows) = omega (arith, count-flags rows, set-more (map is_some rows))

pub length-present : (rows : List (Option Row)) → length (present_rows rows) ≡ count_set (map is_some rows)
length-present [] = refl
length-present (None ∷ rows) = length-present rows
length-present (Some row ∷ rows) = omega (arith, length-present rows, set-more (map is_some rows))

pub spread-back : (rows : List (Option Row)) → spread (map is_some rows) (present_rows rows) ≡ rows
spread-back [] = refl
spread-back (None ∷ rows) = ap (λ (l : List (Option Row)). None ∷ l) (spread-back rows)
spread-back (Some row ∷ rows) = ap (λ (l : List (Option Row)). Some row ∷ l) (spread-back rows)

pub length-spread : (flags : List Bool) (rows : List Row) → length (spread flags rows) ≡ length flags
length-spread [] rows = refl
length-spread (false ∷ flags) rows = ap suc (length-spread flags rows)
length-spread (true ∷ flags) [] = ap suc (length-spread flags [])
length-spread (true ∷ flags) (row ∷ rows) = ap suc (length-spread flags rows)

-- the rows that were spread are those that are present
pub present-spread : (flags : List Bool) (rows : List Row) → length rows ≡ count_set flags → present_rows (spread flags rows) ≡ rows
present-spread [] [] e = refl
present-spread [] (row ∷ rows) e = absurd (omega (arith, e))
present-spread (false ∷ flags) rows e = present-spread flags rows e
present-spread (true ∷ flags) [] e = absurd (omega (arith, e, set-more flags))
present-spread (true ∷ flags) (row ∷ rows) e = ap (λ (l : List Row). row ∷ l) (present-spread flags rows (omega (arith, e, set-more flags)))

one-behind : (row : Row) (rows : List Row) (n : ℕ) → get_or (row ∷ rows) (1 + n) [] ≡ get_or rows n []
one-behind row rows n = let e : 1 + n ≡ suc n = omega arith in ap (λ (k : ℕ). get_or (row ∷ rows) k []) e

-- the row at a place, by how many are present before it
pub at-spread : (flags : List Bool) (rows : List Row) (i : ℕ) → count_set flags ≤ length rows →
    get_or (spread flags rows) i None ≡ (if get_or flags i false then Some (get_or rows (count_set (take i flags)) []) else None)
at-spread [] rows i few = refl
at-spread (false ∷ flags) rows zero few = refl
at-spread (false ∷ flags) rows (suc i) few = at-spread flags rows i few
at-spread (true ∷ flags) [] i few = absurd (omega (arith, few, set-more flags))
at-spread (true ∷ flags) (row ∷ rows) zero few = refl
at-spread (true ∷ flags) (row ∷ rows) (suc i) few =
    at-spread flags rows i (omega (arith, few, set-more flags))
    ∙ ap (λ (r : Row). if get_or flags i false then Some r else None)
    (sym (ap (λ (n : ℕ). get_or (row ∷ rows) n []) (set-more (take i flags)) ∙ one-behind row rows (count_set (take i flags))))

-- fewer are present before a present one than there are
pub before-present : (flags : List Bool) (i : ℕ) → get_or flags i false ≡ true → count_set (take i flags) < count_set flags
before-present [] i e = cc
before-present (false ∷ flags) zero e = cc
before-present (false ∷ flags) (suc i) e = before-present flags i e
before-present (true ∷ flags) zero e = omega (arith, set-more flags)
before-present (true ∷ flags) (suc i) e = omega (arith, before-present flags i e, set-more flags, set-more (take i flags))

-- ---- columns

pub length-across : (columns : List (List Value)) (count : ℕ) → length (rows_across columns count) ≡ count
length-across columns count = length-map-range_with_len (row_across columns) 0 count

pub at-across : (columns : List (List Value)) (count i : ℕ) → i < count → get_or (rows_across columns count) i [] ≡ row_across columns i
at-across columns count i inside = get_or-map-range_with_len (row_across columns) 0 count i i [] inside (omega arith)

-- the value across columns at a place
pub value-across : (columns : List (List Value)) (i j : ℕ) → j < length columns → get_or (row_across columns i) j Null ≡ get_or (get_or columns j []) i Null
value-across columns i j inside = get_or-map (λ (column : List Value). get_or column i Null) columns j [] Null inside

value-in : (rows : List Row) (i j : ℕ) → i < length rows → get_or (values_in j rows) i Null ≡ get_or (get_or rows i []) j Null
value-in rows i j inside = get_or-map (λ (row : Row). get_or row j Null) rows i [] Null inside

-- the columns of rows
pub length-columns : (width : ℕ) (rows : List Row) → length (map (λ column. values_in column rows) (range_with_len 0 width)) ≡ width
length-columns width rows = length-map-range_with_len (λ (column : ℕ). values_in column rows) 0 width

pub at-columns : (width : ℕ) (rows : List Row) (j : ℕ) (d : List Value) → j < width →
    get_or (map (λ column. values_in column rows) (range_with_len 0 width)) j d ≡ values_in j rows
at-columns width rows j d inside = get_or-map-range_with_len (λ (column : ℕ). values_in column rows) 0 width j j d inside (omega arith)

-- each column of rows has a value of each
pub columns-long : (width : ℕ) (rows : List Row) (count : ℕ) → length rows ≡ count →
    HaveLength count (map (λ column. values_in column rows) (range_with_len 0 width))
columns-long width rows count is j d inside =
    ap length (at-columns width rows j d (omega (arith, length-columns width rows, inside))) ∙ (length-map rows (λ (row : Row). get_or row j Null) ∙ is)

-- rows across the columns of rows are these rows
pub across-back : (width : ℕ) (rows : List Row) → All (λ row. length row ≡ width) rows →
    rows_across (map (λ column. values_in column rows) (range_with_len 0 width)) (length rows) ≡ rows
across-back width rows wide =
    ext_get_or [] (rows_across columns (length rows)) rows (length-across columns (length rows))
    (λ i within.
    let inside : i < length rows = omega (arith, length-across columns (length rows), within) in
    at-across columns (length rows) i inside ∙ row i inside)
  where
    columns : List (List Value)
    columns = map (λ column. values_in column rows) (range_with_len 0 width)

    row : (i : ℕ) → i < length rows → row_across columns i ≡ get_or rows i []
    row i inside =
        let long : length (row_across columns i) ≡ width = length-map columns (λ (column : List Value). get_or column i Null) ∙ length-columns width rows in
        ext_get_or Null (row_across columns i) (get_or rows i []) (long ∙ sym (wide i [] inside))
        (λ j within.
        let below : j < width = omega (arith, long, within) in
        value-across columns i j (omega (arith, length-columns width rows, below))
        ∙ (ap (λ (column : List Value). get_or column i Null) (at-columns width rows j [] below) ∙ value-in rows i j inside))

-- the columns of rows across columns are these columns
pub columns-back : (count : ℕ) (columns : List (List Value)) → HaveLength count columns →
    map (λ column. values_in column (rows_across columns count)) (range_with_len 0 (length columns)) ≡ columns
columns-back count columns long =
    ext_get_or [] (map (λ column. values_in column rows) (range_with_len 0 (length columns))) columns (length-columns (length columns) rows)
    (λ j within.
    let inside : j < length columns = omega (arith, length-columns (length columns) rows, within) in
    at-columns (length columns) rows j [] inside ∙ column j inside)
  where
    rows : List Row
    rows = rows_across columns count

    column : (j : ℕ) → j < length columns → values_in j rows ≡ get_or columns j []
    column j inside =
        let many : length (values_in j rows) ≡ count = length-map rows (λ (row : Row). get_or row j Null) ∙ length-across columns count in
        ext_get_or Null (values_in j rows) (get_or columns j []) (many ∙ sym (long j [] inside))
        (λ i within.
        let below : i < count = omega (arith, many, within) in
        value-in rows i j (omega (arith, length-across columns count, below))
        ∙ (ap (λ (row : Row). get_or row j Null) (at-across columns count i below) ∙ value-across columns i j inside))

-- ---- a unit

pub length-kept : (flags : List Bool) (columns : List (List Value)) → length (rows_kept flags columns) ≡ length flags
unfolding rows_kept
length-kept flags columns = length-spread flags (rows_across columns (count_set flags))

-- the rows of a unit that are present
pub present-kept : (flags : List Bool) (columns : List (List Value)) → present_rows (rows_kept flags columns) ≡ rows_across columns (count_set flags)
unfolding rows_kept
present-kept flags columns = present-spread flags (rows_across columns (count_set flags)) (length-across columns (count_set flags))

-- its columns
pub columns-kept : (flags : List Bool) (columns : List (List Value)) (width : ℕ) → HaveLength (count_set flags) columns → width ≡ length columns →
    map (λ column. values_in column (present_rows (rows_kept flags columns))) (range_with_len 0 width) ≡ columns
columns-kept flags columns width long is =
    ap (λ (rows : List Row). map (λ column. values_in column rows) (range_with_len 0 width)) (present-kept flags columns)
    ∙ (ap (λ (n : ℕ). map (λ column. values_in column (rows_across columns (count_set flags))) (range_with_len 0 n)) is
    ∙ columns-back (count_set flags) columns long)

-- the column of a number
pub column-kept : (flags : List Bool) (columns : List (List Value)) (i : ℕ) (d : List Value) → HaveLength (count_set flags) columns → i < length columns →
    get_or columns i d ≡ values_in i (present_rows (rows_kept flags columns))
column-kept flags columns i d long inside =
    let all = columns-kept flags columns (length columns) long refl in
    ap (λ (l : List (List Value)). get_or l i d) (sym all) ∙ at-columns (length columns) (present_rows (rows_kept flags columns)) i d inside

-- and the row at a place
pub at-kept : (flags : List Bool) (columns : List (List Value)) (i : ℕ) →
    get_or (rows_kept flags columns) i None ≡
    (if get_or flags i false then Some (row_across columns (count_set (take i flags))) else None)
unfolding rows_kept
at-kept flags columns i =
    at-spread flags (rows_across columns (count_set flags)) i (omega (arith, length-across columns (count_set flags))) ∙ by (get_or flags i false) refl
  where
    by : (b : Bool) → get_or flags i false ≡ b →
        (if b then Some (get_or (rows_across columns (count_set flags)) (count_set (take i flags)) []) else None) ≡
        (if b then Some (row_across columns (count_set (take i flags))) else None)
    by true e = ap Some (at-across columns (count_set flags) (count_set (take i flags)) (before-present flags i e))
    by false e = refl

-- the flags and the columns of rows stand for these rows
pub kept-back : (width : ℕ) (rows : List (Option Row)) → All (λ row. length row ≡ width) (present_rows rows) →
    rows_kept (map is_some rows) (map (λ column. values_in column (present_rows rows)) (range_with_len 0 width)) ≡ rows
unfolding rows_kept
kept-back width rows wide =
    let columns = map (λ (column : ℕ). values_in column (present_rows rows)) (range_with_len 0 width) in
    ap (λ (n : ℕ). spread (map is_some rows) (rows_across columns n)) (sym (length-present rows))
    ∙ (ap (λ (l : List Row). spread (map is_some rows) l) (across-back width (present_rows rows) wide) ∙ spread-back rows)

-- ---- what is required of the rows

pub present-each : (P : Row → Type 0) (rows : List (Option Row)) → AllByRecursion (λ row. ForSome row P) rows → AllByRecursion P (present_rows rows)
present-each P [] all = all
present-each P (None ∷ rows) all = present-each P rows all.1
present-each P (Some row ∷ rows) all = (all.0 row refl, present-each P rows all.1)

pub few-present : (rows : List (Option Row)) → length (present_rows rows) ≤ length rows
few-present [] = omega arith
few-present (None ∷ rows) = let more = few-present rows in omega (arith, more)
few-present (Some row ∷ rows) = let more = few-present rows in omega (arith, more)

pub are-rows : (width : ℕ) (rows : List (Option Row)) → HaveWidth width rows → AreShort rows → length rows < 2 ^ 31 → AreRows width (present_rows rows)
are-rows width rows wide short few = record {
  wide = All-from_recursion (λ (row : Row). length row ≡ width) (present_rows rows) (present-each (λ (row : Row). length row ≡ width) rows wide);
  short = All-from_recursion (λ (row : Row). All IsShort row) (present_rows rows) (present-each (λ (row : Row). All IsShort row) rows short);
  few = omega (arith, few-present rows, few);
}
