-- Which histories a store may have: each entry is allowed after those before it.
use Rattle.std.specs.Prelude.{◌≡◌, ℕ, ◌+◌, ◌<◌, ◌≤◌, ◌⊎◌, true, false, IsTrue, Bool, List, [], ◌∷◌, ◌++◌, length, All, fold, Option, Some, None, is_some}
use Rattle.std.specs.List.{AllAdjacentBelow, AllByRecursion}
use Rattle.im_values.specs.declared.limits.TheConstants.{MOST_CHANGES, MOST_COLUMNS, MOST_WEIGHT, NUMBERS}
use Rattle.im_values.specs.declared.content.Content.{Content as Value}
use Rattle.im_values.specs.declared.schema.Column.{Column}
use Rattle.im_values.specs.declared.schema.Kind.{Kind}
use Rattle.im_values.specs.declared.schema.Kind.TheVariants as kind
use Rattle.im_values.specs.Fits.{fits, may_stand}
use Rattle.im_history.specs.declared.change.Change.{Change}
use Rattle.im_history.specs.declared.entry.Entry.{Entry}
use Rattle.im_history.specs.declared.entry.What.{What}
use Rattle.im_history.specs.declared.entry.What.TheVariants.{Create, Add, Memory, Begin, Open, Shut, Write, Commit, Rollback, Build, Switch, Cancel, Trickle, Evict, Leave, Purge}
use Rattle.im_history.specs.declared.limits.Limits.{Limits}
use Rattle.im_history.specs.declared.look.TableInfo.{TableInfo}
use Rattle.im_history.specs.declared.task.Held.{Held}
use Rattle.im_history.specs.Cursors.{Opened, cursor_at, is_cursor_open, opened as cursors_of}
use Rattle.im_history.specs.Area.{task_bytes, used}
use Rattle.im_history.specs.Grid.{Grid, IsInRange}
use Rattle.im_history.specs.History.{History}
use Rattle.im_history.specs.Leaves.{has_left}
pub use Rattle.im_history.specs.Puts.{put_from}
use Rattle.im_history.specs.Queue.{next}
use Rattle.im_history.specs.Refusals.{create_refusal, add_refusal, begin_refusal, open_refusal, insert_refusal, write_refusal}
use Rattle.im_history.specs.Rows.{Row, row_after}
use Rattle.im_history.specs.Tables.{table_at, given}
use Rattle.im_history.specs.Transactions.{is_open, pending}
use Rattle.im_history.specs.Units.{builds, held_at, unit}
use Rattle.im_history.specs.Views.{seen_by}

-- how many bytes the texts of a kind of column have at most
abbrev pub text_limit : Kind → ℕ
text_limit kind.Int = 0
text_limit (kind.Text limit) = limit

-- no column takes a text of more than 65,535 bytes
abbrev pub AreNarrow : List Column → Type 0
AreNarrow schema = AllByRecursion (λ column. text_limit column.kind ≤ 65535) schema

-- a table may be created: the session has no open transaction, nothing refuses it, and it has one column
-- at least and not too many, none of texts that are too long, and a shape in range
pub record MayCreate (history : History) (who : ℕ) (name : List ℕ) (schema : List Column) (grid : Grid) : Type 0 where
  pub idle : is_open history who ≡ false
  pub allowed : create_refusal history name ≡ None
  pub columns : (1 ≤ length schema) × (length schema ≤ MOST_COLUMNS)
  pub narrow : AreNarrow schema
  pub shape : IsInRange grid.block × IsInRange grid.extent

-- a table of this number exists
pub record Exists (history : History) (table : ℕ) : Type 0 where
  pub made : TableInfo
  pub is : table_at history table ≡ Some made

-- a table may get one more column: it exists, the session has no open transaction, nothing refuses the column, and the column takes
-- the default, and no texts that are too long
pub record MayAdd (history : History) (who table : ℕ) (column : Column) (default : Value) : Type 0 where
  pub exists : Exists history table
  pub idle : is_open history who ≡ false
  pub allowed : add_refusal history table column.name ≡ None
  pub fits : IsTrue (may_stand column.kind default)
  pub narrow : text_limit column.kind ≤ 65535

-- a cursor may be opened: its table exists, and nothing refuses it, or the SCN that it asks for
pub record MayOpen (history : History) (who cursor table : ℕ) (asked : Option ℕ) : Type 0 where
  pub exists : Exists history table
  pub allowed : open_refusal history who cursor asked ≡ None

-- rows that an insert may put into a table: it exists, there are some, and each fits it
pub record MayInsert (history : History) (table : ℕ) (rows : List Row) : Type 0 where
  pub exists : Exists history table
  pub some : 1 ≤ length rows
  pub fit : All (λ row. IsTrue (fits row exists.made.schema)) rows

-- an insert: some rows that fit a table, at the next row numbers of it, which nothing refuses
pub record IsInsert (limits : Limits) (history : History) (who : ℕ) (changes : List Change) : Type 0 where
  pub table : ℕ
  pub rows : List Row
  pub may : MayInsert history table rows
  pub next : changes ≡ put_from table (given history table) rows
  pub allowed : insert_refusal limits history who changes ≡ None

-- a row that is put fits these columns
abbrev pub row_fits : List Column → Option Row → Bool
row_fits schema None = true
row_fits schema (Some row) = fits row schema

-- the row that a view sees at a row number, changed by what the session has pending now
abbrev pub still_seen : History → ℕ → Opened → ℕ → Option Row
still_seen history who opened rid = fold (row_after opened.view.table rid) (seen_by history opened.view rid) (pending history who)

-- changes that may be written to rows which an open cursor saw, one that asked for no SCN: there are some, all of the cursor's table
-- and of rising row numbers. Each is to a row that the cursor's view saw and that still stands after the session's present changes, and what
-- it puts fits the columns of the view
pub record MayWrite (history : History) (who cursor : ℕ) (changes : List Change) : Type 0 where
  pub opened : Opened
  pub is : cursor_at history who cursor ≡ Some opened
  pub unasked : opened.view.asked ≡ None
  pub some : 1 ≤ length changes
  pub same : All (λ change. change.table ≡ opened.view.table) changes
  pub rising : AllAdjacentBelow (λ before after. before.rid < after.rid) changes (length changes)
  pub inside : All (λ change. change.rid < opened.view.rows) changes
  pub saw : All (λ change. IsTrue (is_some (seen_by history opened.view change.rid))) changes
  pub stands : All (λ change. IsTrue (is_some (still_seen history who opened change.rid))) changes
  pub fit : All (λ change. IsTrue (row_fits opened.view.columns change.row)) changes

-- a write to rows that an open cursor saw, which nothing refuses at its snapshot
pub record IsRewrite (limits : Limits) (history : History) (who : ℕ) (changes : List Change) : Type 0 where
  pub cursor : ℕ
  pub may : MayWrite history who cursor changes
  pub allowed : write_refusal limits history who may.opened.view.scn changes ≡ None

-- a table may join the column store, change its priority there or leave it: it exists, and the session has no open transaction
pub record MaySetMemory (history : History) (who table : ℕ) : Type 0 where
  pub exists : Exists history table
  pub idle : is_open history who ≡ false

-- a build may begin: it is the one that comes next, and has the next number
pub record MayBuild (history : History) (id table extent : ℕ) (trickle : Bool) : Type 0 where
  pub comes : next history ≡ Some (record { table = table; extent = extent; trickle = trickle })
  pub numbered : id ≡ builds history + 1

-- a build may end: whoever ends it began it, and it is held
pub record MayEnd (history : History) (who id : ℕ) : Type 0 where
  pub held : Held
  pub is : held_at history id ≡ Some held
  pub mine : held.who ≡ who

-- what all units take together with that of a held build
abbrev pub used_with : History → Held → ℕ
used_with history held = used history + task_bytes history held.task

-- its unit may become current: nothing killed the build, and the unit fits into the area beside all others, the one that it
-- replaces among them
pub record MaySwitch (limits : Limits) (history : History) (who id : ℕ) : Type 0 where
  pub may : MayEnd history who id
  pub lives : may.held.killed ≡ None
  pub fits : used_with history may.held ≤ limits.area

-- the unit of a held build does not fit into the area, and nothing killed the build
pub record IsFull (limits : Limits) (history : History) (held : Held) : Type 0 where
  pub lives : held.killed ≡ None
  pub over : limits.area < used_with history held

-- a build may be cancelled: as one whose unit does not fit only where that is so
pub record MayCancel (limits : Limits) (history : History) (who id : ℕ) (full : Bool) : Type 0 where
  pub may : MayEnd history who id
  pub cause : full ≡ true → IsFull limits history may.held

-- a session may leave, once: it has no open transaction and no open cursor
pub record MayLeave (history : History) (who : ℕ) : Type 0 where
  pub idle : is_open history who ≡ false
  pub closed : cursors_of history who ≡ []
  pub once : has_left history who ≡ false

-- the entry is allowed after this history
abbrev pub IsAllowed : Limits → History → ℕ → What → Type 0
IsAllowed limits history who (Create name schema grid) = MayCreate history who name schema grid
IsAllowed limits history who (Add table column default) = MayAdd history who table column default
IsAllowed limits history who (Begin mode) = begin_refusal history who ≡ None
IsAllowed limits history who (Open cursor table asked) = MayOpen history who cursor table asked
IsAllowed limits history who (Shut cursor) = IsTrue (is_cursor_open history who cursor)
IsAllowed limits history who (Write changes) = IsInsert limits history who changes ⊎ IsRewrite limits history who changes
IsAllowed limits history who Commit = Unit {0}
IsAllowed limits history who Rollback = IsTrue (is_open history who)
IsAllowed limits history who (Memory table priority) = MaySetMemory history who table
IsAllowed limits history who (Build id table extent trickle) = MayBuild history id table extent trickle
IsAllowed limits history who (Switch id) = MaySwitch limits history who id
IsAllowed limits history who (Cancel id full) = MayCancel limits history who id full
IsAllowed limits history who (Evict table extent) = IsTrue (is_some (unit history table extent))
IsAllowed limits history who (Trickle count) = Unit {0}
IsAllowed limits history who Leave = MayLeave history who
IsAllowed limits history who Purge = Unit {0}

-- the entry may come after this history: whoever made it has a number, and what it records is allowed
pub record MayFollow (limits : Limits) (history : History) (entry : Entry) : Type 0 where
  pub number : entry.who < NUMBERS
  pub allowed : IsAllowed limits history entry.who entry.what

-- each of these entries may come after those before it
abbrev pub IsLegalFrom : Limits → History → History → Type 0
IsLegalFrom limits before [] = Unit {0}
IsLegalFrom limits before (entry ∷ rest) = MayFollow limits before entry × IsLegalFrom limits (before ++ entry ∷ []) rest

-- each entry of the history may come after those before it
pub record IsLegal (limits : Limits) (history : History) : Type 0 where
  pub each : IsLegalFrom limits [] history

-- the limits are not greater than those of the engine
pub record AreSmall (limits : Limits) : Type 0 where
  pub store : limits.store ≤ MOST_WEIGHT
  pub changes : limits.changes ≤ MOST_CHANGES

-- the history of a store under its limits: the limits are small, and the history is legal
pub record IsLawful (limits : Limits) (history : History) : Type 0 where
  pub small : AreSmall limits
  pub legal : IsLegal limits history
