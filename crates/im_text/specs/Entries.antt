-- The records of an entry of the history: what happened, and each change that was written.
use Rattle.std.specs.Prelude.{ℕ, Bool, List, [], ◌∷◌, Option, Some, None, map, flat_map, length, codes, decimal, if◌then◌else◌}
use Rattle.std.specs.Fmt.{signed_decimal}
use Rattle.im_values.specs.declared.content.Content.{Content as Value}
use Rattle.im_values.specs.declared.content.Content.TheVariants as values
use Rattle.im_values.specs.declared.schema.Kind.{Kind}
use Rattle.im_values.specs.declared.schema.Kind.TheVariants as kinds
use Rattle.im_values.specs.declared.schema.Column.{Column}
use Rattle.im_values.specs.declared.priority.Priority.{Priority}
use Rattle.im_values.specs.declared.priority.Priority.TheVariants as priorities
use Rattle.im_history.specs.Grid.{Grid}
use Rattle.im_history.specs.declared.change.Change.{Change}
use Rattle.im_history.specs.declared.entry.Entry.{Entry}
use Rattle.im_history.specs.declared.entry.Mode.{Mode}
use Rattle.im_history.specs.declared.entry.Mode.TheVariants as modes
use Rattle.im_history.specs.declared.entry.What.{What}
use Rattle.im_history.specs.declared.entry.What.TheVariants.{Create, Add, Memory, Begin, Open, Shut, Write, Commit, Rollback, Build, Switch, Cancel, Trickle, Evict, Leave, Purge}

-- how soon a table's units are built, or that the table left the column store
abbrev pub priority_word : Option Priority → List ℕ
priority_word (Some priorities.Critical) = codes "critical"
priority_word (Some priorities.High) = codes "high"
priority_word (Some priorities.Medium) = codes "medium"
priority_word (Some priorities.Low) = codes "low"
priority_word (Some priorities.None) = codes "none"
priority_word None = codes "off"

-- the isolation of a transaction
abbrev pub mode_word : Mode → List ℕ
mode_word modes.Committed = codes "committed"
mode_word modes.Serializable = codes "serializable"
mode_word modes.ReadOnly = codes "readonly"

-- the most bytes of a column's texts, or 0 where it has numbers
abbrev pub text_limit : Kind → ℕ
text_limit kinds.Int = 0
text_limit (kinds.Text limit) = limit

-- a column of a table, by its name and its texts' length
abbrev pub column_fields : Column → List (List ℕ)
column_fields column = column.name ∷ decimal (text_limit column.kind) ∷ []

-- 1 where something is so, and else 0
abbrev pub flag : Bool → ℕ
flag so = if so then 1 else 0

-- a table that was created: its name, its shape, its columns
abbrev pub create_fields : List ℕ → List Column → Grid → List (List ℕ)
create_fields name schema shape =
    codes "create" ∷ name ∷ decimal shape.block ∷ decimal shape.extent ∷ flat_map column_fields schema

-- a value: a number in decimal, a text as it is, NULL as nothing
abbrev pub value_field : Value → List ℕ
value_field (values.Int number) = signed_decimal number
value_field (values.Text text) = text
value_field values.Null = []

-- a column that a table got, and its default
abbrev pub add_fields : ℕ → Column → Value → List (List ℕ)
add_fields table column default =
    codes "add" ∷ decimal table ∷ column.name ∷ decimal (text_limit column.kind) ∷ value_field default ∷ []

-- a cursor that was opened on a table, and the SCN that it asked for, where it asked for one
abbrev pub open_fields : ℕ → ℕ → Option ℕ → List (List ℕ)
open_fields cursor table None = codes "open" ∷ decimal cursor ∷ decimal table ∷ []
open_fields cursor table (Some asked) = codes "open" ∷ decimal cursor ∷ decimal table ∷ decimal asked ∷ []

-- what happened
abbrev pub what_fields : What → List (List ℕ)
what_fields (Create name schema shape) = create_fields name schema shape
what_fields (Add table column default) = add_fields table column default
what_fields (Memory table priority) = codes "memory" ∷ decimal table ∷ priority_word priority ∷ []
what_fields (Begin mode) = codes "begin" ∷ mode_word mode ∷ []
what_fields (Open cursor table asked) = open_fields cursor table asked
what_fields (Shut cursor) = codes "shut" ∷ decimal cursor ∷ []
what_fields (Write changes) = codes "write" ∷ decimal (length changes) ∷ []
what_fields Commit = codes "commit" ∷ []
what_fields Rollback = codes "rollback" ∷ []
what_fields (Build id table extent trickle) =
    codes "build" ∷ decimal id ∷ decimal table ∷ decimal extent ∷ decimal (flag trickle) ∷ []
what_fields (Switch id) = codes "switch" ∷ decimal id ∷ []
what_fields (Cancel id full) = codes "cancel" ∷ decimal id ∷ decimal (flag full) ∷ []
what_fields (Trickle n) = codes "trickle" ∷ decimal n ∷ []
what_fields (Evict table extent) = codes "evict" ∷ decimal table ∷ decimal extent ∷ []
what_fields Leave = codes "leave" ∷ []
what_fields Purge = codes "purge" ∷ []

-- the changes that were written
abbrev pub changes_of : What → List Change
changes_of (Write changes) = changes
changes_of what = []

-- the row that is put, or that the row is taken away
abbrev pub row_fields : Option (List Value) → List (List ℕ)
row_fields (Some row) = codes "put" ∷ map value_field row
row_fields None = codes "out" ∷ []

-- a change of the entry at a place
abbrev pub change_record : ℕ → Change → List (List ℕ)
change_record place change =
    codes "c" ∷ decimal place ∷ decimal change.table ∷ decimal change.rid ∷ row_fields change.row

-- an entry at a place: who did what
abbrev pub head_record : ℕ → Entry → List (List ℕ)
head_record place entry = codes "h" ∷ decimal place ∷ decimal entry.who ∷ what_fields entry.what

-- it, and then each change
abbrev pub entry_records : ℕ → Entry → List (List (List ℕ))
entry_records place entry = head_record place entry ∷ map (change_record place) (changes_of entry.what)
