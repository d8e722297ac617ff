-- What is read of a column unit.
use Rattle.std.specs.Prelude.{◌≡◌, ℕ, ◌-◌, nat_lt, List, length, map, take, get_or, Option, Some, None, is_some, if◌then◌else◌}
use Rattle.std.specs.List.{All, AllByRecursion}
use Rattle.std.specs.Option.{ForSome, option_copied, option_map}
use denote.Ref.{Bor}
use Rattle.im_values.specs.declared.content.Content.{Content as Value}
use Rattle.im_values.specs.declared.content.Content.TheVariants.{Null}
use Rattle.im_values.specs.Widened.{widened}
use Rattle.im_index.specs.declared.bounds.Bounds.{Bounds}
use Rattle.im_index.specs.Bounds.{bounds_of}
use Rattle.im_column.specs.Forms.{IsShort}
pub use Rattle.im_history.specs.Contents.{columns_of, count_present, present_rows, unit_bytes, values_in}
use Rattle.im_history.specs.Rows.{Row}
use Rattle.im_history.specs.Units.{Content}

-- the row at a row number: none before the unit's first one, none past its last one
abbrev pub row_of : Content → ℕ → Option Row
row_of content rid = if nat_lt rid content.first then None else get_or content.rows (rid - content.first) None

-- how many rows of a unit are present before the one at a row number, where that is present
abbrev pub spot_of : Content → ℕ → Option ℕ
spot_of content rid = if is_some (row_of content rid) then Some (count_present (take (rid - content.first) content.rows)) else None

-- the row of the values that columns have at a place
abbrev pub row_across : List (List Value) → ℕ → Row
row_across columns spot = map (λ column. get_or column spot Null) columns

-- the bounds of a unit's columns
abbrev pub edges_of : Content → List Bounds
edges_of content = map bounds_of (columns_of content)

-- rows that are lent, or none
abbrev pub lent_slots : List (Option (Bor Row)) → List (Option Row)
lent_slots slots = map option_copied slots

-- the same, each row with these defaults from its length on
abbrev pub wide_slots : List Value → List (Option (Bor Row)) → List (Option Row)
wide_slots defaults slots = map (option_map (widened defaults)) (lent_slots slots)

-- each row that is present has so many values
abbrev pub HaveWidth : ℕ → List (Option Row) → Type 0
HaveWidth columns rows = AllByRecursion (λ row. ForSome row (λ values. length values ≡ columns)) rows

-- no row that is present has a text of more than 65,535 bytes
abbrev pub AreShort : List (Option Row) → Type 0
AreShort rows = AllByRecursion (λ row. ForSome row (λ values. All IsShort values)) rows
