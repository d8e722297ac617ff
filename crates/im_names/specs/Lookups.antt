-- Tables and columns by their names.
use Rattle.std.specs.Prelude.{◌≡◌, ℕ, suc, Bool, List, [], slice_get, map, Option, Some, None, Result, Err, nat_eq, if◌then◌else◌}
use Rattle.std.specs.Cmp.Lexicographic.{pointwise}
use Rattle.std.specs.List.{find, list_any, position_from}
use Rattle.std.specs.Option.{unwrap_or, is_some, option_or}
use Rattle.im_values.specs.declared.schema.Column.{Column}
use Rattle.im_history.specs.declared.look.TableInfo.{TableInfo}
use Rattle.im_history.specs.Tables.{is_named}
use Rattle.im_names.specs.declared.fault.NameFault.{NameFault}
use Rattle.im_names.specs.declared.fault.NameFault.TheVariants.{UnknownTable, UnknownColumn, RepeatedColumn}
use Rattle.im_names.specs.Faults.{first_fault, with_earlier}

-- two names are one
abbrev pub same_name : List ℕ → List ℕ → Bool
same_name = pointwise nat_eq

-- the column has this name
abbrev pub is_called : List ℕ → Column → Bool
is_called name column = same_name name column.name

-- ---- tables

-- the table of this name, and its number: tables are numbered from 1
abbrev pub table_called : List TableInfo → List ℕ → Option TableInfo
table_called tables name = find (is_named name) tables

abbrev pub table_number : List TableInfo → List ℕ → ℕ
table_number tables name = suc (unwrap_or (position_from (is_named name) 0 tables) 0)

-- what is answered of the table of this name and its number, or that there is none
abbrev pub of_table : {A : Type 0} → Option TableInfo → List ℕ → (TableInfo → Result A NameFault) → Result A NameFault
of_table None name answer = Err (UnknownTable name)
of_table (Some table) name answer = answer table

abbrev pub in_table : {A : Type 0} → List TableInfo → List ℕ → (ℕ → TableInfo → Result A NameFault) → Result A NameFault
in_table tables name answer = of_table (table_called tables name) name (λ table. answer (table_number tables name) table)

-- the table of this name is this one, and has this number
pub record StandsAt (tables : List TableInfo) (name : List ℕ) (number : ℕ) (table : TableInfo) : Type 0 where
  pub found : table_called tables name ≡ Some table
  pub numbered : table_number tables name ≡ number

-- no table has this name
abbrev pub absent : Option TableInfo → List ℕ → Option NameFault
absent None name = Some (UnknownTable name)
absent (Some table) name = None

-- ---- columns

-- the number of the column of this name: columns are numbered from 0
abbrev pub column_called : List Column → List ℕ → Option ℕ
column_called columns name = position_from (is_called name) 0 columns

-- some column has this name
abbrev pub has_column : List Column → List ℕ → Bool
has_column columns name = is_some (column_called columns name)

-- the number, or 0 where there is none: such names are refused before numbers are asked for
abbrev pub number_of : List Column → List ℕ → ℕ
number_of columns name = unwrap_or (column_called columns name) 0

-- what may be wrong with the column of this number
abbrev pub at_column : Option Column → (Column → Option NameFault) → Option NameFault
at_column None fault = None
at_column (Some column) fault = fault column

abbrev pub of_column : List Column → ℕ → (Column → Option NameFault) → Option NameFault
of_column columns number fault = at_column (slice_get columns number) fault

-- ---- names in a statement

-- the table lacks a column of this name
abbrev pub unknown : List Column → List ℕ → Option NameFault
unknown columns name = if has_column columns name then None else Some (UnknownColumn name)

-- the table has a column of this name already
abbrev pub standing : List Column → List ℕ → Option NameFault
standing columns name = if has_column columns name then Some (RepeatedColumn name) else None

-- the name stands among these
abbrev pub is_among : List (List ℕ) → List ℕ → Bool
is_among names name = list_any (λ other. same_name other name) names

-- the name stands among those before it too
abbrev pub repeated : List (List ℕ) → List ℕ → Option NameFault
repeated earlier name = if is_among earlier name then Some (RepeatedColumn name) else None

-- the first of the names that the table lacks
abbrev pub unknown_fault : List Column → List (List ℕ) → Option NameFault
unknown_fault columns names = first_fault (map (unknown columns) names)

-- the first of the names that stands twice
abbrev pub repeated_fault : List (List ℕ) → Option NameFault
repeated_fault names = first_fault (with_earlier repeated [] names)

-- the first of the names that the table lacks or that stands twice
abbrev pub misplaced : List Column → List (List ℕ) → List ℕ → Option NameFault
misplaced columns earlier name = option_or (unknown columns name) (repeated earlier name)

abbrev pub listed_fault : List Column → List (List ℕ) → Option NameFault
listed_fault columns names = first_fault (with_earlier (misplaced columns) [] names)
