-- Where each table got its last column.
use Rattle.std.specs.Prelude.{◌≡◌, ℕ, ◌+◌, ◌≤◌, length, set, slice_index_or}
use Rattle.im_values.specs.declared.limits.TheConstants.{MOST_TABLES}
use Rattle.im_history.specs.declared.entry.What.{What}
use Rattle.im_history.specs.declared.entry.What.TheVariants.{Add}
use Rattle.im_history.specs.History.{History}
use Rattle.im_history.specs.Tables.{last_added}
use Rattle.im_core.specs.declared.last_columns.LastColumns.{LastColumns}

-- what is kept after one more entry, at this place
abbrev pub noted : ℕ → What → LastColumns → LastColumns
noted place (Add table column default) last = record last { places = set last.places table place }
noted place what last = last

-- it is what this history says, as far as tables are numbered
pub record AreLast (history : History) (last : LastColumns) : Type 0 where
  pub sized : length last.places ≡ MOST_TABLES + 1
  pub each : (table : ℕ) → table ≤ MOST_TABLES → slice_index_or last.places table 0 ≡ last_added history table
