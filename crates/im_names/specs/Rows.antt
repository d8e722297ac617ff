-- INSERT, UPDATE and DELETE: what may be wrong with them, and their rows and sets.
use Rattle.std.specs.Prelude.{ℕ, List, [], ◌∷◌, length, get_or, map, nat_eq, ◌==◌, Option, Some, None, if◌then◌else◌}
use Rattle.std.specs.List.{position_from, range_with_len, zip}
use Rattle.im_values.specs.declared.schema.Column.{Column}
use Rattle.im_values.specs.declared.content.Content.{Content as Value}
use Rattle.im_values.specs.declared.content.Content.TheVariants as value
use Rattle.im_syntax.specs.declared.literal.Lit.{Lit}
use Rattle.im_syntax.specs.declared.literal.Lit.TheVariants as lit
use Rattle.im_syntax.specs.Condition.{CondOf}
use Rattle.im_names.specs.declared.fault.NameFault.{NameFault}
use Rattle.im_names.specs.declared.fault.NameFault.TheVariants.{WrongCount}
use Rattle.im_names.specs.Faults.{first_fault}
use Rattle.im_names.specs.Lookups.{number_of, of_column, unknown_fault, listed_fault}
use Rattle.im_names.specs.Literals.{value_of, stored}
use Rattle.im_names.specs.Conditions.{where_names, where_values, values_fault}

-- ---- INSERT

-- the columns that the values of a tuple are for, by their numbers: those listed, and without a list all
abbrev pub targets : List Column → List (List ℕ) → List ℕ
targets columns [] = range_with_len 0 (length columns)
targets columns (name ∷ names) = map (number_of columns) (name ∷ names)

-- the tuple is of another length than so many
abbrev pub count_fault : ℕ → List Lit → Option NameFault
count_fault wanted tuple = if length tuple == wanted then None else Some (WrongCount (length tuple) wanted)

-- what is wrong with a value for the column of a number
abbrev pub stored_fault : List Column → ℕ × Lit → Option NameFault
stored_fault columns placed = of_column columns placed.0 (stored (value_of placed.1))

-- the first of the values of a tuple that may not stand in its column
abbrev pub tuple_fault : List Column → List ℕ → List Lit → Option NameFault
tuple_fault columns numbers tuple = first_fault (map (stored_fault columns) (zip numbers tuple))

-- In the order of the checks: the listed names, then the lengths of all tuples, then their values.
abbrev pub insert_fault : List Column → List (List ℕ) → List (List Lit) → Option NameFault
insert_fault columns names tuples = first_fault (
    listed_fault columns names
    ∷ first_fault (map (count_fault (length (targets columns names))) tuples)
    ∷ first_fault (map (tuple_fault columns (targets columns names)) tuples)
    ∷ [])

-- where in a tuple the value of a column stands, if it does
abbrev pub source : List ℕ → ℕ → Option ℕ
source numbers column = position_from (nat_eq column) 0 numbers

-- the value that a row takes from the tuple, or the default of a column that the tuple has none for
abbrev pub taken : Value → List Lit → Option ℕ → Value
taken default tuple None = default
taken default tuple (Some i) = value_of (get_or tuple i lit.Null)

-- the value of a column in the row of a tuple whose values are for these columns
abbrev pub value_in : List Value → List ℕ → List Lit → ℕ → Value
value_in defaults numbers tuple column = taken (get_or defaults column value.Null) tuple (source numbers column)

-- the row of a tuple whose values are for these columns
abbrev pub row_of : ℕ → List Value → List ℕ → List Lit → List Value
row_of width defaults numbers tuple = map (value_in defaults numbers tuple) (range_with_len 0 width)

abbrev pub rows_of : List Column → List Value → List (List ℕ) → List (List Lit) → List (List Value)
rows_of columns defaults names tuples = map (row_of (length columns) defaults (targets columns names)) tuples

-- ---- UPDATE and DELETE

abbrev pub set_name : List ℕ × Lit → List ℕ
set_name s = s.0

-- a set with the number of its column
abbrev pub set_of : List Column → List ℕ × Lit → ℕ × Value
set_of columns s = (number_of columns s.0, value_of s.1)

-- what is wrong with the value of a set
abbrev pub set_fault : List Column → List ℕ × Lit → Option NameFault
set_fault columns s = stored_fault columns (number_of columns s.0, s.1)

-- In the order of the checks: the names of SET, then those of WHERE, then the values of SET, then those of WHERE.
abbrev pub update_fault : List Column → List (List ℕ × Lit) → Option (CondOf (List ℕ) Lit) → Option NameFault
update_fault columns sets cond = first_fault (
    listed_fault columns (map set_name sets)
    ∷ unknown_fault columns (where_names cond)
    ∷ first_fault (map (set_fault columns) sets)
    ∷ values_fault columns (where_values cond)
    ∷ [])

-- the names of WHERE, then its values
abbrev pub delete_fault : List Column → Option (CondOf (List ℕ) Lit) → Option NameFault
delete_fault columns cond = first_fault (
    unknown_fault columns (where_names cond)
    ∷ values_fault columns (where_values cond)
    ∷ [])
