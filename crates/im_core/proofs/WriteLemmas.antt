-- What a write that is not refused may rely on.
use Rattle.std.proofs.Common.{◌≡◌, ℕ, ◌+◌, ◌-◌, ◌==◌, ◌<◌, ◌≤◌, Bool, true, false, IsTrue, not, nat_lt, List, [], ◌∷◌, length, take, Option, Some, None, refl, sym, ap, subst, ◌∙◌, arith, All, ⊎_elim}
use Rattle.std.specs.List.{list_any}
use Rattle.std.specs.Option.{option_map, option_or}
use Rattle.std.proofs.lemmas.Bool.Decides.{nat_tests}
use Rattle.std.proofs.lemmas.List.{take_all}
use Rattle.std.proofs.lemmas.List.Elements.{All-nil, All-cons}
use Rattle.im_values.specs.declared.limits.TheConstants.{MOST_COLUMNS, MOST_TABLES}
use Rattle.im_values.specs.declared.schema.Column.{Column}
use Rattle.im_values.specs.Fits.{fits}
use Rattle.im_history.specs.declared.change.Change.{Change}
use Rattle.im_history.specs.declared.entry.What.TheVariants.{Write}
use Rattle.im_history.specs.declared.limits.Limits.{Limits}
use Rattle.im_history.specs.declared.look.TableInfo.{TableInfo}
use Rattle.im_history.specs.declared.refused.Why.{Why}
use Rattle.im_history.specs.declared.refused.Why.TheVariants.{RowLocked, TableExists, ColumnExists, CursorOpen}
use Rattle.im_history.specs.declared.view.Opening.{Opening}
use Rattle.im_history.specs.Columns.{columns_of}
use Rattle.im_history.specs.Cursors.{is_cursor_open}
use Rattle.im_history.specs.History.{History}
use Rattle.im_history.specs.Legal.{IsAllowed, IsInsert, IsRewrite, MayInsert, put_from}
use Rattle.im_history.specs.Refusals.{first_cause, when, read_only, lock_on, row_locked, serialize, too_many_changes, store_full, insert_refusal, write_refusal, create_refusal, add_refusal, altered, is_column, open_refusal}
use Rattle.im_history.specs.Rows.{Row}
use Rattle.im_history.specs.Tables.{tables, table_at, table_named, given}
use Rattle.im_history.specs.Touched.{holder}
use Rattle.im_history.specs.Views.{schema_of}
use Rattle.im_history.specs.Weights.{weight, changes_weight}
use Rattle.im_txn.specs.Agrees.{Agrees}
use Rattle.im_txn.specs.Standing.{Standing, IsFree}
use Rattle.im_txn.proofs.ForCallers.{IsFree-by, IsFree-past-given}
use Rattle.im_core.specs.Answers.{MayPut}

-- of two causes none applies
left_none : (a b : Option Why) → option_or a b ≡ None → a ≡ None
left_none None b e = refl
left_none (Some w) b e = e

right_none : (a b : Option Why) → option_or a b ≡ None → b ≡ None
right_none None b e = e
right_none (Some w) b e = cc

when_none : (b : Bool) (why : Why) → when b why ≡ None → b ≡ false
when_none true why e = cc
when_none false why e = refl

-- where the store is not full there is room for the changes
store-room : (limits : Limits) (h : History) (changes : List Change) → weight h ≤ limits.store → store_full limits h changes ≡ None
    → weight h + changes_weight changes ≤ limits.store
store-room limits h changes within none =
    let no : nat_lt (limits.store - weight h) (changes_weight changes) ≡ false = when_none _ _ none in
    grind (arith, nat_tests)

insert-store : (limits : Limits) (h : History) (who : ℕ) (changes : List Change) → insert_refusal limits h who changes ≡ None
    → store_full limits h changes ≡ None
insert-store limits h who changes none = right_none (too_many_changes limits h who changes) _ (right_none (read_only h who) _ none)

write-store : (limits : Limits) (h : History) (who s : ℕ) (changes : List Change) → write_refusal limits h who s changes ≡ None
    → store_full limits h changes ≡ None
write-store limits h who s changes none =
    right_none (too_many_changes limits h who changes) _
    (right_none (serialize h s changes) _ (right_none (row_locked h who changes) _ (right_none (read_only h who) _ none)))

-- a write that is allowed has room in the store
pub room_left : (limits : Limits) (h : History) (who : ℕ) (changes : List Change) → weight h ≤ limits.store → IsAllowed limits h who (Write changes)
    → weight h + changes_weight changes ≤ limits.store
room_left limits h who changes within allowed =
    ⊎_elim (λ (i : IsInsert limits h who changes). store-room limits h changes within (insert-store limits h who changes i.allowed))
    (λ (r : IsRewrite limits h who changes). store-room limits h changes within (write-store limits h who r.may.opened.view.scn changes r.allowed))
    allowed

-- no row of the changes is locked
unlocked : (h : History) (who : ℕ) (changes : List Change) → row_locked h who changes ≡ None
    → All (λ change. holder h who change.table change.rid ≡ None) changes
unlocked h who [] none = All-nil _
unlocked h who (change ∷ changes) none =
    All-cons (λ (c : Change). holder h who c.table c.rid ≡ None) change changes
    (no_holder (holder h who change.table change.rid) (left_none (lock_on h who change) (first_cause (lock_on h who) changes) none))
    (unlocked h who changes (right_none (lock_on h who change) (first_cause (lock_on h who) changes) none))
  where
    no_holder : (o : Option ℕ) → option_map (λ other. RowLocked change.rid other) o ≡ None → o ≡ None
    no_holder None e = refl
    no_holder (Some u) e = cc

-- an insert's row numbers are new
past_given : (h : History) (table first : ℕ) (rows : List Row) → given h table ≤ first
    → All (λ change. given h change.table ≤ change.rid) (put_from table first rows)
past_given h table first [] past = All-nil _
past_given h table first (row ∷ rows) past =
    All-cons (λ (c : Change). given h c.table ≤ c.rid) (record { table = table; rid = first; row = Some row }) (put_from table (first + 1) rows) past
    (past_given h table (first + 1) rows (omega (arith, past)))

-- nobody else holds a row of a write that is allowed
pub free_allowed : (limits : Limits) (h : History) (standing : Standing) (who : ℕ) (changes : List Change) → Agrees h standing
    → IsAllowed limits h who (Write changes) → IsFree standing who changes
free_allowed limits h standing who changes agrees allowed =
    ⊎_elim
    (λ (i : IsInsert limits h who changes). IsFree-past-given h standing who changes agrees
    (rw i.next (past_given h i.table (given h i.table) i.rows (omega arith))))
    (λ (r : IsRewrite limits h who changes). IsFree-by h standing who changes agrees
    (unlocked h who changes (left_none (row_locked h who changes) _ (right_none (read_only h who) _ r.allowed))))
    allowed

-- a table may be created: there is room for it
pub table_room : (h : History) (name : List ℕ) → create_refusal h name ≡ None → length (tables h) < MOST_TABLES
table_room h name none =
    let no : not (nat_lt (length (tables h)) MOST_TABLES) ≡ false =
    when_none _ _ (right_none (option_map (λ table. TableExists table) (table_named h name)) _ none) in
    grind (arith, nat_tests)

-- a cursor that may be opened is not open
pub open_shut : (h : History) (who cursor : ℕ) (asked : Option ℕ) → open_refusal h who cursor asked ≡ None → is_cursor_open h who cursor ≡ false
open_shut h who cursor asked none = when_none _ CursorOpen (left_none (when (is_cursor_open h who cursor) CursorOpen) _ none)

-- a table may get a column: there is room for it
pub column_room : (h : History) (table : ℕ) (name : List ℕ) → add_refusal h table name ≡ None → columns_of (table_at h table) < MOST_COLUMNS
column_room h table name none =
    let no : not (nat_lt (columns_of (table_at h table)) MOST_COLUMNS) ≡ false =
    when_none _ _ (right_none (when (list_any (is_column name) (schema_of (table_at h table))) ColumnExists) _ none) in
    grind (arith, nat_tests)

-- a table has as many columns as whoever is not refused saw
seen_columns : (h : History) (table columns : ℕ) → altered h table columns ≡ None → columns_of (table_at h table) ≡ columns
seen_columns h table columns none =
    let no : not (columns_of (table_at h table) == columns) ≡ false = when_none _ _ none in
    grind (arith, nat_tests)

-- rows that fit the columns that were seen may be inserted where these are the table's
pub may_insert : (h : History) (opening : Opening) (rows : List Row) → MayPut h opening rows → altered h opening.table opening.columns ≡ None
    → MayInsert h opening.table rows
may_insert h opening rows may none =
    let width : columns_of (table_at h opening.table) ≡ opening.columns = seen_columns h opening.table opening.columns none in
    let wide : length may.exists.made.schema ≡ opening.columns = ap (λ (t : Option TableInfo). columns_of t) (sym may.exists.is) ∙ width in
    let all : take opening.columns may.exists.made.schema ≡ may.exists.made.schema = take_all opening.columns may.exists.made.schema (omega (arith, wide)) in
    record {
      exists = may.exists;
      some = may.some;
      fit = subst (λ (columns : List Column). All (λ row. IsTrue (fits row columns)) rows) all may.fit;
    }
