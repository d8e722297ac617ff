-- What one session has going on.
use Rattle.std.specs.Prelude.{ℕ, ◌+◌, ◌-◌, ◌==◌, Bool, not, List, [], ◌∷◌, ◌++◌, length, map, filter, count_by, Option, None, is_some, if◌then◌else◌}
use Rattle.std.specs.List.{find}
use Rattle.im_history.specs.declared.change.Change.{Change}
use Rattle.im_history.specs.declared.entry.Mode.{Mode}
use Rattle.im_history.specs.declared.entry.Mode.TheVariants.{Committed}
use Rattle.im_history.specs.Cursors.{is_own}
use Rattle.im_history.specs.Transactions.{or_here}
use Rattle.im_txn.specs.declared.cursor.Cursor.{Cursor}

-- its pending changes, where its open transaction began, its mode and its open cursors; and how many more writes and
-- cursors can be added without memory
pub record Activity : Type 0 where
  pub pending : List Change
  pub begun : Option ℕ
  pub mode : Mode
  pub cursors : List Cursor
  pub room : ℕ
  pub cursor_room : ℕ

-- nothing
abbrev pub idle : Activity
idle = record { pending = []; begun = None; mode = Committed; cursors = []; room = 0; cursor_room = 0 }

-- one where a transaction is open
abbrev pub transactions : Activity → ℕ
transactions activity = if is_some activity.begun then 1 else 0

-- how many entries it will need without fail: a Rollback of its open transaction, and a Shut of each open cursor
abbrev pub owed_by : Activity → ℕ
owed_by activity = transactions activity + length activity.cursors

-- the cursor has this number
abbrev pub is_number : ℕ → Cursor → Bool
is_number number cursor = cursor.cursor == number

-- the open cursor of this number
abbrev pub cursor_in : Activity → ℕ → Option Cursor
cursor_in activity number = find (is_number number) activity.cursors

-- how many cursors are open that no statement opened by itself
abbrev pub cursors_in : Activity → ℕ
cursors_in activity = count_by (λ cursor. not (is_own cursor.cursor)) activity.cursors

-- the SCNs that the open cursors read at
abbrev pub scns_in : Activity → List ℕ
scns_in activity = map (λ cursor. cursor.scn) activity.cursors

-- the pending changes to a table
abbrev pub own_in : Activity → ℕ → List Change
own_in activity table = filter (λ change. change.table == table) activity.pending

-- a statement set the mode: a transaction begins at this place where none is open
abbrev pub with_mode : ℕ → Mode → Activity → Activity
with_mode place mode activity = record activity { begun = or_here place activity.begun; mode = mode }

-- one more cursor is open
abbrev pub with_cursor : Cursor → Activity → Activity
with_cursor cursor activity = record activity { cursors = activity.cursors ++ cursor ∷ []; cursor_room = activity.cursor_room - 1 }

-- the cursor of this number is no longer open
abbrev pub without_cursor : ℕ → Activity → Activity
without_cursor number activity = record activity { cursors = filter (λ cursor. not (is_number number cursor)) activity.cursors }

-- the changes of one write more are pending: a transaction begins at this place where none is open
abbrev pub with_changes : ℕ → List Change → Activity → Activity
with_changes place changes activity = record activity {
  pending = activity.pending ++ changes;
  begun = or_here place activity.begun;
  room = activity.room - 1;
}

-- the transaction ended
abbrev pub ended : Activity → Activity
ended activity = record activity { pending = []; begun = None; mode = Committed; room = 0 }
