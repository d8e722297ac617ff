use Rattle.im_text.proofs.faults.put_fault.Goals as goal

pub returns-in-UnknownTable : goal.returns-in-UnknownTable
returns-in-UnknownTable c = rw (c.in-UnknownTable.is, ← c.bytes.ensures) c.refuse_name.ensures

pub returns-in-UnknownColumn : goal.returns-in-UnknownColumn
returns-in-UnknownColumn c = rw (c.in-UnknownColumn.is, ← c.bytes-in-UnknownColumn.ensures) c.refuse_name-in-UnknownColumn.ensures

pub returns-in-RepeatedColumn : goal.returns-in-RepeatedColumn
returns-in-RepeatedColumn c = rw (c.in-RepeatedColumn.is, ← c.bytes-in-RepeatedColumn.ensures) c.refuse_name-in-RepeatedColumn.ensures

pub returns-in-WrongCount : goal.returns-in-WrongCount
returns-in-WrongCount c = rw c.in-WrongCount.is c.refuse-in-WrongCount.ensures

pub returns-in-TableExists : goal.returns-in-TableExists
returns-in-TableExists c = rw (c.in-TableExists.is, ← c.bytes-in-TableExists.ensures) c.refuse_name-in-TableExists.ensures

pub returns-in-NotGrouped : goal.returns-in-NotGrouped
returns-in-NotGrouped c = rw (c.in-NotGrouped.is, ← c.column_or_star.ensures) c.refuse_name-in-NotGrouped.ensures

pub returns-in-CursorUnknown : goal.returns-in-CursorUnknown
returns-in-CursorUnknown c = rw (c.in-CursorUnknown.is, ← c.from.ensures) c.refuse-in-CursorUnknown.ensures

pub returns-in-CursorOpen : goal.returns-in-CursorOpen
returns-in-CursorOpen c = rw (c.in-CursorOpen.is, ← c.from-in-CursorOpen.ensures) c.refuse-in-CursorOpen.ensures

pub returns-in-TransactionOpen : goal.returns-in-TransactionOpen
returns-in-TransactionOpen c = rw c.in-TransactionOpen.is c.refuse-in-TransactionOpen.ensures

pub returns-in-ReadOnly : goal.returns-in-ReadOnly
returns-in-ReadOnly c = rw c.in-ReadOnly.is c.refuse-in-ReadOnly.ensures

pub returns-in-StoreFull : goal.returns-in-StoreFull
returns-in-StoreFull c = rw c.in-StoreFull.is c.refuse-in-StoreFull.ensures

pub returns-in-SnapshotTooOld : goal.returns-in-SnapshotTooOld
returns-in-SnapshotTooOld c = rw c.in-SnapshotTooOld.is c.refuse-in-SnapshotTooOld.ensures
