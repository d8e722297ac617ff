-- What is read of what a column unit holds.
use Rattle.std.specs.Prelude.{ℕ, ◌+◌, ◌*◌, List, length, filter, map, get_or, sum_by, Option, is_some}
use Rattle.std.specs.Int.{div_ceil}
use Rattle.std.specs.List.{filter_map, range_with_len}
use Rattle.im_values.specs.declared.content.Content.{Content as Value}
use Rattle.im_values.specs.declared.content.Content.TheVariants.{Null}
use Rattle.im_values.specs.Sizes.{column_bytes}
use Rattle.im_history.specs.Rows.{Row}
use Rattle.im_history.specs.Units.{Content}

-- how many rows are present
abbrev pub count_present : List (Option Row) → ℕ
count_present rows = length (filter is_some rows)

-- the rows that are present, in order
abbrev pub present_rows : List (Option Row) → List Row
present_rows rows = filter_map (λ row. row) rows

-- the values of rows in one column
abbrev pub values_in : ℕ → List Row → List Value
values_in column rows = map (λ row. get_or row column Null) rows

-- the columns of a unit: the values of the rows that are present, column by column
abbrev pub columns_of : Content → List (List Value)
columns_of content = map (λ column. values_in column (present_rows content.rows)) (range_with_len 0 content.columns)

-- the bytes that a unit counts for: a bit for each row number, in whole words of 8 bytes, and those of its columns
abbrev pub unit_bytes : Content → ℕ
unit_bytes content = 8 * div_ceil (length content.rows) 64 + sum_by column_bytes (columns_of content)
