-- Which extents a build may be chosen among, and how much their units take, by what is kept of each.
use Rattle.std.specs.Prelude.{◌≡◌, ℕ, ◌<◌, ◌&&◌, Bool, true, false, not, List, length, sum_by, Option, Some, None, is_none}
use Rattle.im_journal.specs.Stale.{stale_rows}
use Rattle.im_history.specs.Contents.{count_present, unit_bytes}
use Rattle.im_history.specs.Queue.{has_stale, is_past_threshold}
use Rattle.im_history.specs.Units.{Content}
use Rattle.im_directory.specs.declared.journals.Current.{Current}
use Rattle.im_directory.specs.Slots.{Kept, Slot, Stock, Told, told_at}

module _ {U : Type 0} where
  -- a build of the extent may begin: it has no living build, and does not wait
  abbrev pub is_free : Told U → Bool
  is_free told = is_none told.growing && not told.waits

  -- and it has no unit
  abbrev pub is_empty : Told U → Bool
  is_empty told = is_free told && is_none told.current

  -- the least extent of a table that passes a test
  pub record IsFirst (test : Told U → Bool) (kept : Kept U) (table extent : ℕ) : Type 0 where
    pub is : test (told_at kept table extent) ≡ true
    pub before : (other : ℕ) → other < extent → test (told_at kept table other) ≡ false

  -- no extent of a table passes a test
  pub record NonePasses (test : Told U → Bool) (kept : Kept U) (table : ℕ) : Type 0 where
    pub each : (extent : ℕ) → test (told_at kept table extent) ≡ false

module _ {U : Type 0} (content : U → Content) where
  -- an extent has a unit that meets this test of how many rows it has and how many are stale
  abbrev pub is_unit : (ℕ → ℕ → Bool) → Option (Stock U) → Bool
  is_unit test None = false
  is_unit test (Some stock) = test (count_present (content stock.unit).rows) (length (stale_rows stock.notes))

  -- a build may begin, and the unit is past the threshold
  abbrev pub is_due : Told U → Bool
  is_due told = is_free told && is_unit is_past_threshold told.current

  -- a build may begin, and the unit has a stale row
  abbrev pub is_stale : Told U → Bool
  is_stale told = is_free told && is_unit has_stale told.current

  -- the bytes that a current unit counts for
  abbrev pub current_bytes : Option (Current U) → ℕ
  current_bytes None = 0
  current_bytes (Some current) = unit_bytes (content current.unit.value)

  -- the bytes that all current units count for together
  abbrev pub used_in : List (List (Slot U)) → ℕ
  used_in slots = sum_by (sum_by (λ slot. current_bytes slot.current)) slots
