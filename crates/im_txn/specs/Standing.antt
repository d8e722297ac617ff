-- What all sessions have going on, as contracts see it.
use Rattle.std.specs.Prelude.{◌≡◌, ℕ, ◌^◌, ◌+◌, ◌≤◌, ◌<◌, List, length, slice_index_or, All, Option, None}
use Rattle.std.specs.List.{sum_by}
use Rattle.im_values.specs.declared.limits.TheConstants.{NUMBERS}
use Rattle.im_history.specs.declared.change.Change.{Change}
use Rattle.im_txn.specs.Activity.{Activity, idle, owed_by}
use Rattle.im_txn.specs.LockCells.{Locks, lock_of, HasCells, other_in}

-- the activity of each number from 0 on, the lock cells of each table, and how many entries all together will need
-- without fail
pub record Standing : Type 0 where
  pub activities : List Activity
  pub locks : Locks
  pub owed : ℕ

-- the activity of a number, nothing past the last
abbrev pub activity_at : Standing → ℕ → Activity
activity_at standing who = slice_index_or standing.activities who idle

-- the lock cell of a row
abbrev pub lock_at : Standing → ℕ → ℕ → ℕ
lock_at standing table rid = lock_of standing.locks table rid

-- another number that holds the row
abbrev pub holder_in : Standing → ℕ → ℕ → ℕ → Option ℕ
holder_in standing who table rid = other_in who (lock_at standing table rid)

-- a session has no more cursors open than this
abbrev pub most_open : ℕ
most_open = 2 ^ 32

-- a session has few cursors open
abbrev pub IsFew : Activity → Type 0
IsFew activity = length activity.cursors + activity.cursor_room ≤ most_open

-- there is an activity for each number, and what is owed is counted
pub record IsCounted (standing : Standing) : Type 0 where
  pub numbers : length standing.activities ≡ NUMBERS
  pub few : All IsFew standing.activities
  pub sum : standing.owed ≡ sum_by owed_by standing.activities

-- there is room for the changes of one write of a session, which are few enough to be counted
pub record HasRoom (standing : Standing) (who : ℕ) (changes : List Change) : Type 0 where
  pub write : 0 < (activity_at standing who).room
  pub fits : length (activity_at standing who).pending + length changes ≤ 2 ^ 63
  pub cells : HasCells standing.locks changes

-- no other session holds the row of any of these changes
pub record IsFree (standing : Standing) (who : ℕ) (changes : List Change) : Type 0 where
  pub each : All (λ change. holder_in standing who change.table change.rid ≡ None) changes
