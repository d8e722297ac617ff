-- The record of a refusal: its code, its words, and the values that say why.
use Rattle.std.specs.Prelude.{ℕ, List, [], ◌∷◌, Option, Some, None, codes, decimal}
use Rattle.im_values.specs.declared.limits.TheConstants.{MOST_COLUMNS, MOST_TABLES, MOST_CURSORS}
use Rattle.im_replies.specs.declared.fault.Fault.{Fault}
use Rattle.im_replies.specs.declared.fault.Fault.TheVariants.{LineTooLong, Syntax, UnknownTable, UnknownColumn, RepeatedColumn, WrongCount, WrongKind, TooLong, NotGrouped, TableExists, TooManyTables, CursorUnknown, CursorOpen, TooManyCursors, NoSuchScn, SnapshotTooOld, TransactionOpen, ReadOnly, RowLocked, CannotSerialize, TooManyChanges, StoreFull, NoUnit, TooManyColumns, TableAltered, Memory}

-- the column of a grouped query, or its `*`
abbrev pub column_or_star : Option (List ℕ) → List ℕ
column_or_star (Some column) = column
column_or_star None = codes "*"

-- what follows the word `error`
abbrev pub fault_fields : Fault → List (List ℕ)
fault_fields (Syntax byte) = codes "01" ∷ codes "syntax" ∷ decimal byte ∷ []
fault_fields (LineTooLong length) = codes "02" ∷ codes "line-too-long" ∷ decimal length ∷ []
fault_fields (UnknownTable name) = codes "03" ∷ codes "unknown-table" ∷ name ∷ []
fault_fields (UnknownColumn name) = codes "03" ∷ codes "unknown-column" ∷ name ∷ []
fault_fields (RepeatedColumn name) = codes "03" ∷ codes "repeated-column" ∷ name ∷ []
fault_fields (WrongKind column) = codes "04" ∷ codes "wrong-kind" ∷ column ∷ []
fault_fields (WrongCount got wanted) = codes "05" ∷ codes "wrong-count" ∷ decimal got ∷ decimal wanted ∷ []
fault_fields (TooLong column length limit) = codes "06" ∷ codes "too-long" ∷ column ∷ decimal length ∷ decimal limit ∷ []
fault_fields (TableExists name) = codes "07" ∷ codes "table-exists" ∷ name ∷ []
fault_fields TooManyTables = codes "08" ∷ codes "too-many-tables" ∷ decimal MOST_TABLES ∷ []
fault_fields (NotGrouped column) = codes "09" ∷ codes "not-grouped" ∷ column_or_star column ∷ []
fault_fields (CursorUnknown cursor) = codes "10" ∷ codes "cursor-unknown" ∷ decimal cursor ∷ []
fault_fields (CursorOpen cursor) = codes "11" ∷ codes "cursor-open" ∷ decimal cursor ∷ []
fault_fields TooManyCursors = codes "12" ∷ codes "too-many-cursors" ∷ decimal MOST_CURSORS ∷ []
fault_fields (TransactionOpen place) = codes "13" ∷ codes "transaction-open" ∷ decimal place ∷ []
fault_fields ReadOnly = codes "14" ∷ codes "read-only" ∷ []
fault_fields (RowLocked row holder) = codes "15" ∷ codes "row-locked" ∷ decimal row ∷ decimal holder ∷ []
fault_fields (CannotSerialize row scn) = codes "16" ∷ codes "cannot-serialize" ∷ decimal row ∷ decimal scn ∷ []
fault_fields (TooManyChanges need left) = codes "17" ∷ codes "too-many-changes" ∷ decimal need ∷ decimal left ∷ []
fault_fields (StoreFull need left) = codes "18" ∷ codes "store-full" ∷ decimal need ∷ decimal left ∷ []
fault_fields (NoUnit table extent) = codes "19" ∷ codes "no-unit" ∷ decimal table ∷ decimal extent ∷ []
fault_fields (SnapshotTooOld asked horizon) = codes "20" ∷ codes "snapshot-too-old" ∷ decimal asked ∷ decimal horizon ∷ []
fault_fields TooManyColumns = codes "21" ∷ codes "too-many-columns" ∷ decimal MOST_COLUMNS ∷ []
fault_fields (TableAltered table place) = codes "22" ∷ codes "table-altered" ∷ decimal table ∷ decimal place ∷ []
fault_fields (NoSuchScn asked scn) = codes "23" ∷ codes "no-such-scn" ∷ decimal asked ∷ decimal scn ∷ []
fault_fields (Memory k) = codes "99" ∷ codes "memory" ∷ decimal k ∷ []

-- the record of a line that was refused
abbrev pub fault_record : Fault → List (List ℕ)
fault_record fault = codes "error" ∷ fault_fields fault
