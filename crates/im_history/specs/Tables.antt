-- The tables that a history created, and the row numbers that it gave.
use Rattle.std.specs.Prelude.{ℕ, zero, suc, ◌+◌, ◌==◌, Bool, max, List, length, [], ◌∷◌, ◌++◌, fold, map, slice_get, Option, None, if◌then◌else◌, nat_eq}
use Rattle.std.specs.Cmp.Lexicographic.{pointwise}
use Rattle.std.specs.List.{list_any, position}
use Rattle.std.specs.Option.{option_map}
use Rattle.im_history.specs.declared.change.Change.{Change}
use Rattle.im_values.specs.declared.content.Content.{Content as Value}
use Rattle.im_values.specs.declared.content.Content.TheVariants.{Null}
use Rattle.im_values.specs.declared.priority.Priority.{Priority}
use Rattle.im_values.specs.declared.schema.Column.{Column}
use Rattle.im_history.specs.declared.entry.What.{What}
use Rattle.im_history.specs.declared.entry.What.TheVariants.{Create, Add, Memory, Write}
use Rattle.im_history.specs.declared.look.TableInfo.{TableInfo}
use Rattle.im_history.specs.Grid.{Grid}
use Rattle.im_history.specs.History.{History, replay}

-- the tables, the one at this place having joined the column store with a priority, or left it
abbrev pub with_memory : ℕ → Option Priority → List TableInfo → List TableInfo
with_memory place priority [] = []
with_memory zero priority (table ∷ tables) = record table { memory = priority } ∷ tables
with_memory (suc place) priority (table ∷ tables) = table ∷ with_memory place priority tables

-- the tables after a Memory entry that names this number; no table has the number 0
abbrev pub remembered : ℕ → Option Priority → List TableInfo → List TableInfo
remembered zero priority tables = tables
remembered (suc place) priority tables = with_memory place priority tables

-- a NULL for each column
abbrev pub nulls : List Column → List Value
nulls schema = map (λ column. Null) schema

-- a table as it is created: outside the column store, and the default of each column is NULL
abbrev pub new_table : List ℕ → List Column → Grid → TableInfo
new_table name schema grid = record { name = name; schema = schema; shape = grid; memory = None; defaults = nulls schema }

-- a table with one column more behind the others, and its default
abbrev pub longer_by : Column → Value → TableInfo → TableInfo
longer_by column default table = record table { schema = table.schema ++ column ∷ []; defaults = table.defaults ++ default ∷ [] }

-- the tables, the one at this place having got a column with its default
abbrev pub with_column : ℕ → Column → Value → List TableInfo → List TableInfo
with_column place column default [] = []
with_column zero column default (table ∷ tables) = longer_by column default table ∷ tables
with_column (suc place) column default (table ∷ tables) = table ∷ with_column place column default tables

-- the tables after an Add entry that names this number; no table has the number 0
abbrev pub lengthened : ℕ → Column → Value → List TableInfo → List TableInfo
lengthened zero column default tables = tables
lengthened (suc place) column default tables = with_column place column default tables

-- the tables with what one more entry makes of them
abbrev pub created : List TableInfo → What → List TableInfo
created tables (Create name schema grid) = tables ++ new_table name schema grid ∷ []
created tables (Add table column default) = lengthened table column default tables
created tables (Memory table priority) = remembered table priority tables
created tables what = tables

-- the tables in the order of their creation: the first of them is table 1
unfoldable pub tables : History → List TableInfo
tables history = replay (λ before so_far entry. created so_far entry.what) [] history

-- the table of this number among tables that are numbered from 1
abbrev pub table_among : List TableInfo → ℕ → Option TableInfo
table_among tables zero = None
table_among tables (suc before) = slice_get tables before

-- the table of this number; none has the number 0
abbrev pub table_at : History → ℕ → Option TableInfo
table_at history table = table_among (tables history) table

-- a table has this name
abbrev pub is_named : List ℕ → TableInfo → Bool
is_named name table = pointwise nat_eq name table.name

-- some table has this name
abbrev pub name_is_taken : History → List ℕ → Bool
name_is_taken history name = list_any (is_named name) (tables history)

-- the number of the table of this name among tables that are numbered from 1
abbrev pub number_among : List TableInfo → List ℕ → Option ℕ
number_among tables name = option_map suc (position (is_named name) tables)

-- the number of the table of this name
abbrev pub table_named : History → List ℕ → Option ℕ
table_named history name = number_among (tables history) name

-- one more than the greatest row number that these changes name in the table, or so many where that is more
abbrev pub given_by : ℕ → ℕ → List Change → ℕ
given_by table so_far changes = fold (λ n change. if change.table == table then max n (change.rid + 1) else n) so_far changes

-- the row numbers given with those of one more entry
abbrev pub given_after : ℕ → ℕ → What → ℕ
given_after table so_far (Write changes) = given_by table so_far changes
given_after table so_far what = so_far

-- the place of the last entry that added a column to a table, after one more entry at this place
abbrev pub last_added_after : ℕ → ℕ → ℕ → What → ℕ
last_added_after table place so_far (Add other column default) = if other == table then place else so_far
last_added_after table place so_far what = so_far

-- the place of the last entry that added a column to a table, 0 where none did
unfoldable pub last_added : History → ℕ → ℕ
last_added history table = replay (λ before so_far entry. last_added_after table (length before) so_far entry.what) 0 history

-- how many row numbers of the table were ever given: they are never given again
unfoldable pub given : History → ℕ → ℕ
given history table = replay (λ before so_far entry. given_after table so_far entry.what) 0 history
