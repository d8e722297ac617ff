-- The fault of a line whose call was refused, or whose names and values have no numbers.
use Rattle.im_history.specs.declared.refused.Why.{Why}
use Rattle.im_history.specs.declared.refused.Why.TheVariants as why
use Rattle.im_names.specs.declared.fault.NameFault.{NameFault}
use Rattle.im_names.specs.declared.fault.NameFault.TheVariants as names
use Rattle.im_replies.specs.declared.aim.Aim.{Aim}
use Rattle.im_replies.specs.declared.aim.Aim.TheVariants as aim
use Rattle.im_replies.specs.declared.fault.Fault.{Fault}
use Rattle.im_replies.specs.declared.fault.Fault.TheVariants as fault

-- the fault of a call that was to do this and was refused for this cause, before its line made an entry. Only a creation is refused for
-- a name that is taken, and so only one more column; only an opening or an insert for a table that got columns, only an opening for a
-- cursor that is open, and only an eviction for an extent without a unit: of another call these say nothing, and stand as the want of
-- memory
abbrev pub fault_of : Aim → Why → Fault
fault_of (aim.Creating name) (why.TableExists table) = fault.TableExists name
fault_of (aim.Adding name) why.ColumnExists = fault.RepeatedColumn name
fault_of (aim.Opening table cursor) (why.Altered place) = fault.TableAltered table place
fault_of (aim.Opening table cursor) why.CursorOpen = fault.CursorOpen cursor
fault_of (aim.Inserting table) (why.Altered place) = fault.TableAltered table place
fault_of (aim.Evicting table extent) why.NoUnit = fault.NoUnit table extent
fault_of other why.TooManyTables = fault.TooManyTables
fault_of other why.TooManyColumns = fault.TooManyColumns
fault_of other (why.TransactionOpen place) = fault.TransactionOpen place
fault_of other why.ReadOnly = fault.ReadOnly
fault_of other why.TooManyCursors = fault.TooManyCursors
fault_of other (why.NoSuchScn asked scn) = fault.NoSuchScn asked scn
fault_of other (why.SnapshotTooOld asked horizon) = fault.SnapshotTooOld asked horizon
fault_of other (why.RowLocked row holder) = fault.RowLocked row holder
fault_of other (why.Serialize row scn) = fault.CannotSerialize row scn
fault_of other (why.TooManyChanges need left) = fault.TooManyChanges need left
fault_of other (why.StoreFull need left) = fault.StoreFull need left
fault_of other why.NoMemory = fault.Memory 0
fault_of other (why.TableExists table) = fault.Memory 0
fault_of other why.ColumnExists = fault.Memory 0
fault_of other (why.Altered place) = fault.Memory 0
fault_of other why.CursorOpen = fault.Memory 0
fault_of other why.NoUnit = fault.Memory 0

-- the fault of a statement whose names or values have this fault. It came before the line made an entry
abbrev pub name_fault : NameFault → Fault
name_fault (names.UnknownTable name) = fault.UnknownTable name
name_fault (names.UnknownColumn name) = fault.UnknownColumn name
name_fault (names.RepeatedColumn name) = fault.RepeatedColumn name
name_fault (names.WrongCount got wanted) = fault.WrongCount got wanted
name_fault (names.WrongKind column) = fault.WrongKind column
name_fault (names.TooLong column length limit) = fault.TooLong column length limit
name_fault (names.NotGrouped column) = fault.NotGrouped column
name_fault names.NoMemory = fault.Memory 0
