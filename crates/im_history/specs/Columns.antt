-- The columns of a table at an SCN. A table keeps its columns and gets others behind them.
use Rattle.std.specs.Prelude.{ℕ, ◌+◌, ◌-◌, ◌==◌, ◌&&◌, nat_le, List, length, take, Option, if◌then◌else◌}
use Rattle.im_values.specs.declared.content.Content.{Content as Value}
use Rattle.im_values.specs.declared.schema.Column.{Column}
use Rattle.im_history.specs.declared.entry.What.{What}
use Rattle.im_history.specs.declared.entry.What.TheVariants.{Add}
use Rattle.im_history.specs.declared.look.TableInfo.{TableInfo}
use Rattle.im_history.specs.Commits.{scn}
use Rattle.im_history.specs.History.{History, replay}
use Rattle.im_history.specs.Tables.{table_at}
use Rattle.im_history.specs.Views.{defaults_of, schema_of}

-- how many columns a table has
abbrev pub columns_of : Option TableInfo → ℕ
columns_of table = length (schema_of table)

-- how many columns a table got behind an SCN, one more entry counted
abbrev pub added_after : ℕ → ℕ → History → ℕ → What → ℕ
added_after table from before so_far (Add other column default) = if (other == table) && nat_le from (scn before) then so_far + 1 else so_far
added_after table from before so_far what = so_far

-- how many columns a table got behind an SCN
unfoldable pub added : History → ℕ → ℕ → ℕ
added history table from = replay (λ before so_far entry. added_after table from before so_far entry.what) 0 history

-- how many columns a table had at an SCN
abbrev pub columns_at : History → ℕ → ℕ → ℕ
columns_at history table at = columns_of (table_at history table) - added history table at

-- the columns that a table had at an SCN
abbrev pub schema_at : History → ℕ → ℕ → List Column
schema_at history table at = take (columns_at history table at) (schema_of (table_at history table))

-- their defaults
abbrev pub defaults_at : History → ℕ → ℕ → List Value
defaults_at history table at = take (columns_at history table at) (defaults_of (table_at history table))
