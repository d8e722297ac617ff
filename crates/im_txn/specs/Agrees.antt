-- What is going on by a history.
use Rattle.std.specs.Prelude.{◌≡◌, ℕ, suc, ◌+◌, ◌==◌, ◌≤◌, ◌<◌, ◌||◌, not, Bool, length, map, count_by, Option, if◌then◌else◌}
use Rattle.std.specs.List.{range_with_len, sum_by}
use Rattle.im_values.specs.declared.limits.TheConstants.{NUMBERS}
use Rattle.im_history.specs.declared.entry.What.{What}
use Rattle.im_history.specs.Cursors.{Opened, opened}
use Rattle.im_history.specs.History.{History}
use Rattle.im_history.specs.Kinds.{scope_of}
use Rattle.im_history.specs.Tables.{given, table_at}
use Rattle.im_history.specs.Touched.{touches}
use Rattle.im_history.specs.Units.{columns_of}
use Rattle.im_history.specs.Views.{per_at, reads_at}
use Rattle.im_history.specs.Transactions.{pending, begun, mode, is_open}
use Rattle.im_txn.specs.declared.cursor.Cursor.{Cursor}
use Rattle.im_txn.specs.Activity.{is_number}
use Rattle.im_txn.specs.Standing.{Standing, activity_at, lock_at}

-- what is kept of an opened cursor
abbrev pub kept : Opened → Cursor
kept opened = record {
  cursor = opened.cursor;
  table = opened.view.table;
  scn = opened.view.scn;
  rows = opened.view.rows;
  per = opened.view.per;
  columns = length opened.view.columns;
}

-- the cursor that a session's opening of this number on this table keeps, one that asks for this SCN, or for none
abbrev pub cursor_of : History → ℕ → ℕ → ℕ → Option ℕ → Cursor
cursor_of history who cursor table asked = record {
  cursor = cursor;
  table = table;
  scn = reads_at history who asked;
  rows = given history table;
  per = per_at history table;
  columns = columns_of (table_at history table);
}

-- a Rollback where a session has an open transaction, and a Shut for each cursor that it has open
abbrev pub owes : History → ℕ → ℕ
owes history who = (if is_open history who then 1 else 0) + length (opened history who)

-- the entries that all numbers together will need without fail
unfoldable pub owed : History → ℕ
owed history = sum_by (owes history) (range_with_len 0 NUMBERS)

-- what is going on is what this history says: a row's cell names the number that has a change to it pending
pub record Agrees (history : History) (standing : Standing) : Type 0 where
  pub changes : (who : ℕ) → (activity_at standing who).pending ≡ pending history who
  pub began : (who : ℕ) → (activity_at standing who).begun ≡ begun history who
  pub modes : (who : ℕ) → (activity_at standing who).mode ≡ mode history who
  pub cursors : (who : ℕ) → (activity_at standing who).cursors ≡ map kept (opened history who)
  pub once : (who cursor : ℕ) → count_by (is_number cursor) (activity_at standing who).cursors ≤ 1
  pub locks : (table rid who : ℕ) → who < NUMBERS → (lock_at standing table rid == suc who) ≡ touches (pending history who) table rid
  pub holders : (table rid : ℕ) → lock_at standing table rid ≤ NUMBERS
  pub owing : standing.owed ≡ owed history

-- an entry of this kind changes nothing of what sessions have going on
abbrev pub is_apart : What → Bool
is_apart what = not ((scope_of what).transaction || (scope_of what).cursors)
