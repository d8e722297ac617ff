-- That what is going on stays in agreement with the history, and what it then says.
use Rattle.std.specs.Prelude.{◌≡◌, ℕ, ◌+◌, ◌≤◌, ◌<◌, None, true, false, List, [], ◌∷◌, ◌++◌, length, map, All, Option}
use Rattle.std.specs.Option.{option_map}
use Rattle.im_values.specs.declared.limits.TheConstants.{NUMBERS}
use Rattle.im_history.specs.declared.change.Change.{Change}
use Rattle.im_history.specs.declared.entry.Mode.{Mode}
use Rattle.im_history.specs.declared.entry.What.{What}
use Rattle.im_history.specs.declared.entry.What.TheVariants.{Begin, Open, Shut, Write, Commit, Rollback}
use Rattle.im_history.specs.Cursors.{cursor_at, is_cursor_open, cursors_open, opened}
use Rattle.im_history.specs.History.{History}
use Rattle.im_history.specs.Refusals.{row_locked}
use Rattle.im_history.specs.Rows.{own_changes}
use Rattle.im_history.specs.Tables.{given}
use Rattle.im_history.specs.Touched.{holder}
use Rattle.im_history.specs.Transactions.{is_open}
use Rattle.im_txn.specs.declared.cursor.Cursor.{Cursor}
use Rattle.im_txn.specs.Activity.{cursor_in, cursors_in, own_in, scns_in}
use Rattle.im_txn.specs.Agrees.{Agrees, cursor_of, kept, is_apart}
use Rattle.im_txn.specs.Effects.{IsIdle, IsBegun, IsOpened, IsShut, IsWritten, IsEnded, IsGrown}
use Rattle.im_txn.specs.Standing.{Standing, activity_at, holder_in, IsFree}

-- each call keeps the agreement, with the entry that it goes with
pub record KeepsAgreement : Type 0 where
  pub at_first : (standing : Standing) → IsIdle standing → Agrees [] standing
  pub begins : (h : History) (who : ℕ) (mode : Mode) (old new : Standing) → Agrees h old → who < NUMBERS → IsBegun old new who (length h) mode →
      Agrees (h ++ record { who = who; what = Begin mode } ∷ []) new
  pub opens : (h : History) (who cursor table : ℕ) (asked : Option ℕ) (old new : Standing) → Agrees h old → who < NUMBERS →
      is_cursor_open h who cursor ≡ false → IsOpened old new who (cursor_of h who cursor table asked) →
      Agrees (h ++ record { who = who; what = Open cursor table asked } ∷ []) new
  pub shuts : (h : History) (who cursor : ℕ) (old new : Standing) → Agrees h old → who < NUMBERS → IsShut old new who cursor →
      Agrees (h ++ record { who = who; what = Shut cursor } ∷ []) new
  pub writes : (h : History) (who : ℕ) (changes : List Change) (old new : Standing) → Agrees h old → who < NUMBERS → IsFree old who changes →
      IsWritten old new who (length h) changes → Agrees (h ++ record { who = who; what = Write changes } ∷ []) new
  pub commits : (h : History) (who : ℕ) (old new : Standing) → Agrees h old → who < NUMBERS → IsEnded old new who →
      Agrees (h ++ record { who = who; what = Commit } ∷ []) new
  pub rolls_back : (h : History) (who : ℕ) (old new : Standing) → Agrees h old → who < NUMBERS → IsEnded old new who →
      Agrees (h ++ record { who = who; what = Rollback } ∷ []) new
  pub others : (h : History) (who : ℕ) (what : What) (standing : Standing) → is_apart what ≡ true → Agrees h standing →
      Agrees (h ++ record { who = who; what = what } ∷ []) standing
  pub room : (h : History) (old new : Standing) → Agrees h old → IsGrown old new → Agrees h new

-- where it agrees, each reading is the history's
pub record ReadsHistory (h : History) (standing : Standing) : Type 0 where
  pub holder : (who table rid : ℕ) → holder_in standing who table rid ≡ holder h who table rid
  pub own : (who table : ℕ) → own_in (activity_at standing who) table ≡ own_changes h who table
  pub cursor : (who number : ℕ) → cursor_in (activity_at standing who) number ≡ option_map kept (cursor_at h who number)
  pub cursors : (who : ℕ) → cursors_in (activity_at standing who) ≡ cursors_open h who
  pub scns : (who : ℕ) → scns_in (activity_at standing who) ≡ map (λ opened. opened.view.scn) (opened h who)
  pub free : (who : ℕ) (changes : List Change) → row_locked h who changes ≡ None → IsFree standing who changes
  pub fresh : (who : ℕ) (changes : List Change) → All (λ change. given h change.table ≤ change.rid) changes → IsFree standing who changes

-- where it agrees, what is owed moves by one with each transaction and each cursor
pub record CountsOwed (h : History) (old new : Standing) (who : ℕ) : Type 0 where
  pub begun : (place : ℕ) (mode : Mode) → is_open h who ≡ false → IsBegun old new who place mode → new.owed ≡ old.owed + 1
  pub first_written : (place : ℕ) (changes : List Change) → is_open h who ≡ false → IsWritten old new who place changes → new.owed ≡ old.owed + 1
  pub written : (place : ℕ) (changes : List Change) → is_open h who ≡ true → IsWritten old new who place changes → new.owed ≡ old.owed
  pub opened : (cursor : Cursor) → IsOpened old new who cursor → new.owed ≡ old.owed + 1
  pub shut : (cursor : ℕ) → is_cursor_open h who cursor ≡ true → IsShut old new who cursor → new.owed + 1 ≡ old.owed
  pub ended : is_open h who ≡ true → IsEnded old new who → new.owed + 1 ≡ old.owed
