-- What each call leaves.
use Rattle.std.specs.Prelude.{◌≡◌, ℕ, ◌+◌, ◌≤◌, List, if◌then◌else◌}
use Rattle.im_history.specs.declared.change.Change.{Change}
use Rattle.im_history.specs.declared.entry.Mode.{Mode}
use Rattle.im_history.specs.Touched.{touches}
use Rattle.im_txn.specs.declared.cursor.Cursor.{Cursor}
use Rattle.im_txn.specs.Activity.{Activity, idle, owed_by, with_mode, with_cursor, without_cursor, with_changes, ended}
use Rattle.im_txn.specs.LockCells.{IsLonger}
use Rattle.im_txn.specs.Standing.{Standing, activity_at, lock_at}

-- the activity of one session became this, that of each other stayed, and what is owed moved with it
pub record Becomes (old new : Standing) (who : ℕ) (after : Activity) : Type 0 where
  pub mine : activity_at new who ≡ after
  pub others : (other : ℕ) → (other ≡ who → ⊥) → activity_at new other ≡ activity_at old other
  pub owed : new.owed + owed_by (activity_at old who) ≡ old.owed + owed_by after

-- nothing is going on
pub record IsIdle (standing : Standing) : Type 0 where
  pub activities : (who : ℕ) → activity_at standing who ≡ idle
  pub locks : (table rid : ℕ) → lock_at standing table rid ≡ 0
  pub owed : standing.owed ≡ 0

-- a session's statement set the mode at this place
pub record IsBegun (old new : Standing) (who place : ℕ) (mode : Mode) : Type 0 where
  pub activity : Becomes old new who (with_mode place mode (activity_at old who))
  pub locks : new.locks ≡ old.locks

-- a session opened a cursor
pub record IsOpened (old new : Standing) (who : ℕ) (cursor : Cursor) : Type 0 where
  pub activity : Becomes old new who (with_cursor cursor (activity_at old who))
  pub locks : new.locks ≡ old.locks

-- a session shut a cursor
pub record IsShut (old new : Standing) (who cursor : ℕ) : Type 0 where
  pub activity : Becomes old new who (without_cursor cursor (activity_at old who))
  pub locks : new.locks ≡ old.locks

-- a session wrote changes at this place, and holds their rows
pub record IsWritten (old new : Standing) (who place : ℕ) (changes : List Change) : Type 0 where
  pub activity : Becomes old new who (with_changes place changes (activity_at old who))
  pub locks : (table rid : ℕ) → lock_at new table rid ≡ (if touches changes table rid then who + 1 else lock_at old table rid)

-- a session ended its transaction, and the rows of its pending changes are free
pub record IsEnded (old new : Standing) (who : ℕ) : Type 0 where
  pub activity : Becomes old new who (ended (activity_at old who))
  pub locks : (table rid : ℕ) → lock_at new table rid ≡ (if touches (activity_at old who).pending table rid then 0 else lock_at old table rid)

-- an activity is the same, with no less room
pub record IsRoomier (old new : Activity) : Type 0 where
  pub pending : new.pending ≡ old.pending
  pub begun : new.begun ≡ old.begun
  pub mode : new.mode ≡ old.mode
  pub cursors : new.cursors ≡ old.cursors
  pub room : old.room ≤ new.room
  pub cursor_room : old.cursor_room ≤ new.cursor_room

-- all is as before, with no less room
pub record IsGrown (old new : Standing) : Type 0 where
  pub activities : (who : ℕ) → IsRoomier (activity_at old who) (activity_at new who)
  pub locks : IsLonger old.locks new.locks
  pub owed : new.owed ≡ old.owed
