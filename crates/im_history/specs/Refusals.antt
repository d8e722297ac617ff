-- Why a call of the store is refused: each cause by itself, and the first that applies.
use Rattle.std.specs.Prelude.{ℕ, ◌-◌, ◌==◌, ◌&&◌, Bool, true, false, not, nat_eq, nat_lt, List, [], ◌∷◌, length, Option, Some, None, is_none}
use Rattle.std.specs.Cmp.Lexicographic.{pointwise}
use Rattle.std.specs.List.{list_any}
use Rattle.std.specs.Option.{option_map, option_or}
use Rattle.im_values.specs.declared.schema.Column.{Column}
use Rattle.im_values.specs.declared.limits.TheConstants.{MOST_COLUMNS, MOST_CURSORS, MOST_TABLES}
use Rattle.im_history.specs.declared.change.Change.{Change}
use Rattle.im_history.specs.declared.entry.Mode.{Mode}
use Rattle.im_history.specs.declared.entry.Mode.TheVariants as mode
use Rattle.im_history.specs.declared.limits.Limits.{Limits}
use Rattle.im_history.specs.declared.refused.Why.{Why}
use Rattle.im_history.specs.declared.refused.Why.TheVariants.{TableExists, TooManyTables, ColumnExists, TooManyColumns, Altered, TransactionOpen, ReadOnly, CursorOpen, TooManyCursors, NoSuchScn, SnapshotTooOld, RowLocked, Serialize, TooManyChanges, StoreFull, NoUnit}
use Rattle.im_history.specs.Columns.{columns_of}
use Rattle.im_history.specs.Commits.{scn}
use Rattle.im_history.specs.Cursors.{is_cursor_open, is_own, cursors_open}
use Rattle.im_history.specs.History.{History}
use Rattle.im_history.specs.Horizon.{horizon}
use Rattle.im_history.specs.Tables.{last_added, tables, table_at, table_named}
use Rattle.im_history.specs.Touched.{holder, last_touch}
use Rattle.im_history.specs.Transactions.{mode as mode_of, begun, pending}
use Rattle.im_history.specs.Units.{unit}
use Rattle.im_history.specs.Views.{schema_of}
use Rattle.im_history.specs.Weights.{weight, changes_weight}

-- the first cause that an element of a list has
abbrev pub first_cause : {X : Type 0} → (X → Option Why) → List X → Option Why
first_cause cause [] = None
first_cause cause (x ∷ xs) = option_or (cause x) (first_cause cause xs)

-- the cause, where this holds
abbrev pub when : Bool → Why → Option Why
when true why = Some why
when false why = None

-- the mode allows no writing
abbrev pub forbids_writing : Mode → Bool
forbids_writing mode.Committed = false
forbids_writing mode.Serializable = false
forbids_writing mode.ReadOnly = true

-- the session's transaction is READ ONLY
abbrev pub read_only : History → ℕ → Option Why
read_only history who = when (forbids_writing (mode_of history who)) ReadOnly

-- another session has a change to the row pending
abbrev pub lock_on : History → ℕ → Change → Option Why
lock_on history who change = option_map (λ other. RowLocked change.rid other) (holder history who change.table change.rid)

-- the first row that is locked so
abbrev pub row_locked : History → ℕ → List Change → Option Why
row_locked history who changes = first_cause (lock_on history who) changes

-- a commit after this SCN touched the row: the last such commit
abbrev pub touch_after : History → ℕ → Change → Option Why
touch_after history scn change =
    when (nat_lt scn (last_touch history change.table change.rid)) (Serialize change.rid (last_touch history change.table change.rid))

-- the first row that was touched so
abbrev pub serialize : History → ℕ → List Change → Option Why
serialize history scn changes = first_cause (touch_after history scn) changes

-- the transaction would have more changes than the limit allows
abbrev pub too_many_changes : Limits → History → ℕ → List Change → Option Why
too_many_changes limits history who changes =
    when (nat_lt (limits.changes - length (pending history who)) (length changes))
    (TooManyChanges (length changes) (limits.changes - length (pending history who)))

-- the store has no room for what the changes weigh
abbrev pub store_full : Limits → History → List Change → Option Why
store_full limits history changes =
    when (nat_lt (limits.store - weight history) (changes_weight changes))
    (StoreFull (changes_weight changes) (limits.store - weight history))

-- what refuses any write
abbrev pub no_room : Limits → History → ℕ → List Change → Option Why
no_room limits history who changes = option_or (too_many_changes limits history who changes) (store_full limits history changes)

-- what refuses an insert. Its row numbers are new, so nobody else can have touched them
abbrev pub insert_refusal : Limits → History → ℕ → List Change → Option Why
insert_refusal limits history who changes = option_or (read_only history who) (no_room limits history who changes)

-- what refuses a write of changes to rows that were seen at an SCN
abbrev pub write_refusal : Limits → History → ℕ → ℕ → List Change → Option Why
write_refusal limits history who scn changes =
    option_or (read_only history who)
    (option_or (row_locked history who changes)
    (option_or (serialize history scn changes) (no_room limits history who changes)))

-- what refuses the creation of a table: one has the name, or there is no room for one more
abbrev pub create_refusal : History → List ℕ → Option Why
create_refusal history name =
    option_or (option_map (λ table. TableExists table) (table_named history name))
    (when (not (nat_lt (length (tables history)) MOST_TABLES)) TooManyTables)

-- a column has this name
abbrev pub is_column : List ℕ → Column → Bool
is_column name column = pointwise nat_eq name column.name

-- what refuses one more column of a table: a column has the name, or there is no room for one more
abbrev pub add_refusal : History → ℕ → List ℕ → Option Why
add_refusal history table name =
    option_or (when (list_any (is_column name) (schema_of (table_at history table))) ColumnExists)
    (when (not (nat_lt (columns_of (table_at history table)) MOST_COLUMNS)) TooManyColumns)

-- what refuses whoever saw the table with another number of columns: it got columns since, the last of them there
abbrev pub altered : History → ℕ → ℕ → Option Why
altered history table columns = when (not (columns_of (table_at history table) == columns)) (Altered (last_added history table))

-- what refuses the beginning of a transaction: one is open, and began there
abbrev pub begin_refusal : History → ℕ → Option Why
begin_refusal history who = option_map (λ place. TransactionOpen place) (begun history who)

-- what refuses an SCN that is asked for: it was not reached, or lies below the horizon
abbrev pub asked_refusal : History → Option ℕ → Option Why
asked_refusal history None = None
asked_refusal history (Some asked) =
    option_or (when (nat_lt (scn history) asked) (NoSuchScn asked (scn history)))
    (when (nat_lt asked (horizon history)) (SnapshotTooOld asked (horizon history)))

-- what refuses the opening of a cursor
abbrev pub open_refusal : History → ℕ → ℕ → Option ℕ → Option Why
open_refusal history who cursor asked =
    option_or (when (is_cursor_open history who cursor) CursorOpen)
    (option_or (when (not (is_own cursor) && not (nat_lt (cursors_open history who) MOST_CURSORS)) TooManyCursors) (asked_refusal history asked))

-- the unit of an extent may not be taken out of the column store where there is none
abbrev pub evict_refusal : History → ℕ → ℕ → Option Why
evict_refusal history table extent = when (is_none (unit history table extent)) NoUnit
