-- That what a statement resolves to may be handed to the store: its columns stand in the table, and its values in them.
use Rattle.std.specs.Prelude.{◌≡◌, ℕ, zero, suc, ◌≤◌, true, List, length, slice_get, Option, Some, None}
use Rattle.std.specs.List.{AllByRecursion}
use Rattle.std.specs.Option.{option_map, ForSome}
use Rattle.im_values.specs.declared.schema.Column.{Column}
use Rattle.im_values.specs.declared.content.Content.{Content as Value}
use Rattle.im_values.specs.Fits.{may_stand, fits}
use Rattle.im_values.specs.declared.limits.TheConstants.{MOST_COLUMNS}
use Rattle.im_syntax.specs.Condition.{CondOf}
use Rattle.im_syntax.specs.declared.bound.Bound.{Bound}
use Rattle.im_syntax.specs.BoundFits.{FilterFits, BoundFits}
use Rattle.im_syntax.specs.BoundQuery.{IsQuery}
use Rattle.im_history.specs.Grid.{Grid, IsInRange}
use Rattle.im_history.specs.declared.look.TableInfo.{TableInfo}
use Rattle.im_history.specs.Tables.{table_among}
use Rattle.im_names.specs.declared.resolved.Resolved.{Resolved}
use Rattle.im_names.specs.declared.resolved.Resolved.TheVariants as resolved

-- the columns of the table of this number; none has the number 0
abbrev pub columns_at : List TableInfo → ℕ → Option (List Column)
columns_at tables zero = None
columns_at tables (suc before) = option_map (λ table. table.schema) (slice_get tables before)

-- the defaults of each table may stand in its columns
pub record DefaultsFit (tables : List TableInfo) : Type 0 where
  pub each : (number : ℕ) (table : TableInfo) → table_among tables number ≡ Some table → fits table.defaults table.schema ≡ true

-- there is a table of this number, and this holds of its columns
pub record OfTable (tables : List TableInfo) (number : ℕ) (P : List Column → Type 0) : Type 0 where
  pub columns : List Column
  pub are_of : columns_at tables number ≡ Some columns
  pub is : P columns

-- a condition, which may be absent, may be asked of every row of the table
abbrev pub FilterServes : Option (CondOf ℕ Value) → List Column → Type 0
FilterServes filter columns = (row : List Value) → fits row columns ≡ true → ForSome filter (FilterFits row)

-- a query may be asked of every row of the table, and is grouped as SQL groups
pub record QueryServes (bound : Bound) (columns : List Column) : Type 0 where
  pub rows : (row : List Value) → fits row columns ≡ true → BoundFits row bound
  pub query : IsQuery bound

-- a value may stand in the column of a number
pub record SetServes (columns : List Column) (set : ℕ × Value) : Type 0 where
  pub column : Column
  pub is_there : slice_get columns set.0 ≡ Some column
  pub stands : may_stand column.kind set.1 ≡ true

-- there are rows, and each may stand in the table
pub record RowsServe (rows : List (List Value)) (columns : List Column) : Type 0 where
  pub some : 1 ≤ length rows
  pub each : AllByRecursion (λ row. fits row columns ≡ true) rows

-- the condition and the sets of an UPDATE
pub record UpdateServes (filter : Option (CondOf ℕ Value)) (sets : List (ℕ × Value)) (columns : List Column) : Type 0 where
  pub condition : FilterServes filter columns
  pub values : AllByRecursion (SetServes columns) sets

-- a column or more, not more than a table may have, and a shape in its range
pub record TableServes (columns : List Column) (shape : Grid) : Type 0 where
  pub some : 1 ≤ length columns
  pub few : length columns ≤ MOST_COLUMNS
  pub block : IsInRange shape.block
  pub extent : IsInRange shape.extent

-- what a statement resolves to fits the tables
abbrev pub Serves : List TableInfo → Resolved → Type 0
Serves tables (resolved.Select bound) = OfTable tables bound.table (QueryServes bound)
Serves tables (resolved.Explain bound) = OfTable tables bound.table (QueryServes bound)
Serves tables (resolved.OpenFor cursor bound) = OfTable tables bound.table (QueryServes bound)
Serves tables (resolved.Create name columns shape memory) = TableServes columns shape
Serves tables (resolved.Memory table priority) = OfTable tables table (λ columns. Unit {0})
Serves tables (resolved.AddColumn table column default) = OfTable tables table (λ columns. may_stand column.kind default ≡ true)
Serves tables (resolved.Insert table rows) = OfTable tables table (RowsServe rows)
Serves tables (resolved.Update table filter sets) = OfTable tables table (UpdateServes filter sets)
Serves tables (resolved.Delete table filter) = OfTable tables table (FilterServes filter)
Serves tables (resolved.Evict table extent) = OfTable tables table (λ columns. Unit {0})
Serves tables statement = Unit {0}
