-- What the last changes left, table by table.
use Rattle.std.specs.Prelude.{◌≡◌, ℕ, ◌+◌, ◌≤◌, List, [], length, take, slice_index_or, Option}
use Rattle.std.specs.Option.{ForSome}
use Rattle.im_history.specs.declared.change.Change.{Change}
use Rattle.im_history.specs.Last.{Slot, last_at, left_by, change_of}
use Rattle.im_history.specs.Puts.{all_changes}

-- how many changes the first so many writes have, and so many more
abbrev pub count_known : ℕ → ℕ → List (List Change) → ℕ
count_known known part writes = length (all_changes (take known writes)) + part

-- by each table's number, these are what the last of the changes of the first so many writes, and of so many of the next one, left
pub record AreLasts (known part : ℕ) (tables : List (List Slot)) (writes : List (List Change)) : Type 0 where
  pub within : known ≤ length writes
  pub inside : part ≤ length (slice_index_or writes known [])
  pub at : (table rid : ℕ) → last_at (slice_index_or tables table []) rid ≡ change_of (take (count_known known part writes) (all_changes writes)) table rid

-- both say the same of each row
abbrev pub ReadsSame : List (List Slot) → List (List Slot) → Type 0
ReadsSame old new = (table rid : ℕ) → last_at (slice_index_or new table []) rid ≡ last_at (slice_index_or old table []) rid

-- one change more was put, if there is one
abbrev pub IsPut : List (List Slot) → List (List Slot) → Option Change → Type 0
IsPut old new found = ForSome found (λ change. (table rid : ℕ) → last_at (slice_index_or new table []) rid
    ≡ left_by table rid (last_at (slice_index_or old table []) rid) change)
