-- What a statement resolves to among these tables, or its first fault.
use Rattle.std.specs.Prelude.{ℕ, List, map, Option, Some, None, Result, Ok}
use Rattle.std.specs.Option.{option_map, option_or}
use Rattle.im_syntax.specs.declared.statement.Stmt.{Stmt}
use Rattle.im_syntax.specs.declared.statement.Stmt.TheVariants as stmt
use Rattle.im_syntax.specs.declared.query.Query.{Query}
use Rattle.im_syntax.specs.declared.table.ColumnPart.{ColumnPart}
use Rattle.im_syntax.specs.declared.table.MemoryPart.{MemoryPart}
use Rattle.im_values.specs.declared.content.Content.{Content as Value}
use Rattle.im_values.specs.declared.priority.Priority.{Priority}
use Rattle.im_values.specs.declared.schema.Column.{Column}
use Rattle.im_syntax.specs.declared.bound.Bound.{Bound}
use Rattle.im_history.specs.declared.look.TableInfo.{TableInfo}
use Rattle.im_history.specs.declared.entry.Mode.TheVariants as mode
use Rattle.im_names.specs.declared.fault.NameFault.{NameFault}
use Rattle.im_names.specs.declared.resolved.Resolved.{Resolved}
use Rattle.im_names.specs.declared.resolved.Resolved.TheVariants as resolved
use Rattle.im_names.specs.Faults.{unless, formed}
use Rattle.im_names.specs.Literals.{default_of, stored}
use Rattle.im_names.specs.Lookups.{in_table, repeated_fault, standing}
use Rattle.im_names.specs.Conditions.{filter_of}
use Rattle.im_names.specs.Rows.{insert_fault, rows_of, update_fault, set_of, delete_fault}
use Rattle.im_names.specs.Queries.{query_fault, bound_of}
use Rattle.im_names.specs.Definitions.{column_of, column_name, shape_of, priority_of}

-- the bound form of a query
abbrev pub query_answer : List TableInfo → Query → Result Bound NameFault
query_answer tables q = in_table tables q.table (λ number table.
    unless (query_fault table.schema q) (bound_of number table.schema q))

-- a table that is created; that its name is free is not asked here
abbrev pub create_answer : List ℕ → List ColumnPart → Option ℕ → Option ℕ → Option MemoryPart → Result Resolved NameFault
create_answer name columns block extent memory =
    unless (repeated_fault (map column_name columns))
    (resolved.Create name (map column_of columns) (shape_of block extent) (option_map priority_of memory))

-- a table that joins the column store with a priority, or leaves it
abbrev pub memory_answer : List TableInfo → List ℕ → Option Priority → Result Resolved NameFault
memory_answer tables name priority = in_table tables name (λ number table. Ok (resolved.Memory number priority))

-- what is wrong with a column that a table of these columns gets: one of them has its name, or the column may not hold its default
abbrev pub added_fault : List Column → Column → Value → Option NameFault
added_fault columns column default = option_or (standing columns column.name) (stored default column)

-- a column that a table gets; that there is room for it is not asked here
abbrev pub add_answer : List TableInfo → List ℕ → Column → Value → Result Resolved NameFault
add_answer tables name column default = in_table tables name (λ number table.
    unless (added_fault table.schema column default) (resolved.AddColumn number column default))

-- The table is looked up first. What else may be wrong, in the order of the checks, stands beside what the statement resolves to.
abbrev pub resolution : List TableInfo → Stmt → Result Resolved NameFault
resolution tables (stmt.Select q) = formed resolved.Select (query_answer tables q)
resolution tables (stmt.Explain q) = formed resolved.Explain (query_answer tables q)
resolution tables (stmt.OpenFor cursor q) = formed (resolved.OpenFor cursor) (query_answer tables q)
resolution tables (stmt.Create name columns block extent memory) = create_answer name columns block extent memory
resolution tables (stmt.AlterMemory name memory) = memory_answer tables name (Some (priority_of memory))
resolution tables (stmt.AlterNoMemory name) = memory_answer tables name None
resolution tables (stmt.AddColumn name part default) = add_answer tables name (column_of part) (default_of default)
resolution tables (stmt.Insert name names tuples) = in_table tables name (λ number table.
    unless (insert_fault table.schema names tuples) (resolved.Insert number (rows_of table.schema table.defaults names tuples)))
resolution tables (stmt.Update name sets cond) = in_table tables name (λ number table.
    unless (update_fault table.schema sets cond) (resolved.Update number (filter_of table.schema cond) (map (set_of table.schema) sets)))
resolution tables (stmt.Delete name cond) = in_table tables name (λ number table.
    unless (delete_fault table.schema cond) (resolved.Delete number (filter_of table.schema cond)))
resolution tables stmt.SetReadOnly = Ok (resolved.SetMode mode.ReadOnly)
resolution tables stmt.SetSerializable = Ok (resolved.SetMode mode.Serializable)
resolution tables stmt.SetCommitted = Ok (resolved.SetMode mode.Committed)
resolution tables stmt.Commit = Ok resolved.Commit
resolution tables stmt.Rollback = Ok resolved.Rollback
resolution tables (stmt.Step cursor) = Ok (resolved.Step cursor)
resolution tables (stmt.Fetch cursor) = Ok (resolved.Fetch cursor)
resolution tables (stmt.Close cursor) = Ok (resolved.Close cursor)
resolution tables stmt.Run = Ok resolved.Run
resolution tables stmt.Begin = Ok resolved.Begin
resolution tables stmt.Switch = Ok resolved.Switch
resolution tables stmt.Cancel = Ok resolved.Cancel
resolution tables (stmt.Trickle n) = Ok (resolved.Trickle n)
resolution tables stmt.Purge = Ok resolved.Purge
resolution tables (stmt.Evict name extent) = in_table tables name (λ number table. Ok (resolved.Evict number extent))
