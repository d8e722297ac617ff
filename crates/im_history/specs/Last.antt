-- What the last change to each row number leaves there.
use Rattle.std.specs.Prelude.{◌≡◌, ℕ, ◌+◌, ◌<◌, ◌≤◌, ◌==◌, ◌&&◌, List, [], ◌∷◌, length, slice_index_or, All, fold, filter, Option, Some, None, if◌then◌else◌}
use Rattle.std.specs.Option.{unwrap_or}
use Rattle.im_values.specs.declared.content.Content.{Content as Value}
use Rattle.im_history.specs.declared.change.Change.{Change}

-- a row or none, at a row number
abbrev pub Slot : Type 0
Slot = ℕ × Option (List Value)

-- what stands at a row number in a list of such, if that number is in it
abbrev pub last_at : List Slot → ℕ → Option (Option (List Value))
last_at [] rid = None
last_at (slot ∷ slots) rid = if slot.0 == rid then Some slot.1 else last_at slots rid

-- what a row number of a table was left with, once one change more is known
abbrev pub left_by : ℕ → ℕ → Option (Option (List Value)) → Change → Option (Option (List Value))
left_by table rid so_far change = if (change.table == table) && (change.rid == rid) then Some change.row else so_far

-- what the last of these changes to a row number of a table leaves there, if one is to it
abbrev pub change_of : List Change → ℕ → ℕ → Option (Option (List Value))
change_of changes table rid = fold (left_by table rid) None changes

-- those of these changes that are to a table
abbrev pub changes_of : ℕ → List Change → List Change
changes_of table changes = filter (λ change. change.table == table) changes

-- these slots are what the last of these changes to a table left at those of so many row numbers, from the first on, that they are to
pub record AreLast (changes : List Change) (table first count : ℕ) (slots : List Slot) : Type 0 where
  pub found : (rid : ℕ) → first ≤ rid → rid < first + count → last_at slots rid ≡ change_of changes table rid
  pub each : All (λ slot. change_of changes table slot.0 ≡ Some slot.1) slots
  pub within : All (λ slot. (first ≤ slot.0) × (slot.0 < first + count)) slots

-- rows from the first row number on became these, as far as what is left of the last changes says no more: with that they are what
-- the last changes make of them
pub record ArePut (changes : List Change) (table first : ℕ) (left : List Slot) (before now : List (Option (List Value))) : Type 0 where
  pub long : length now ≡ length before
  pub each : All (λ slot. change_of changes table slot.0 ≡ Some slot.1) left
  pub at : (place : ℕ) → place < length before → unwrap_or (last_at left (first + place)) (slice_index_or now place None)
      ≡ unwrap_or (change_of changes table (first + place)) (slice_index_or before place None)
