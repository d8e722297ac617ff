-- What the lists of extents say, which goes with what is kept of each.
use Rattle.std.specs.Prelude.{◌≡◌, ℕ, ◌≤◌, ◌<◌, ◌^◌, false, not, List, []}
use Rattle.im_tables.specs.Table.{HasCell, cell_at, with_cell}
use Rattle.im_history.specs.Units.{Content}
use Rattle.im_directory.specs.declared.lists.Lists.{Lists}
use Rattle.im_directory.specs.declared.marks.Marks.{Marks}
use Rattle.im_directory.specs.Lists.{is_due, is_empty, is_stale, used_in}
use Rattle.im_directory.specs.Slots.{Kept, Slot, Told, slot_at, told}
use Rattle.im_directory.specs.Steps.{slot_rested}

-- what the lists say of an extent; past the ends nothing is up
abbrev pub marks_at : Lists → ℕ → ℕ → Marks
marks_at lists table extent = record {
  taken = cell_at false lists.taken table extent;
  due = cell_at false lists.due table extent;
  stale = cell_at false lists.stale table extent;
  waits = cell_at false lists.waiting table extent;
}

-- there is room for the marks of an extent
pub record HasMarks (lists : Lists) (table extent : ℕ) : Type 0 where
  pub taken : HasCell lists.taken table extent
  pub due : HasCell lists.due table extent
  pub stale : HasCell lists.stale table extent
  pub waiting : HasCell lists.waiting table extent
  pub within : table < lists.tables

-- the lists with other marks of an extent
abbrev pub with_marks : ℕ → ℕ → Marks → Lists → Lists
with_marks table extent marks lists = record {
  taken = with_cell table extent marks.taken lists.taken;
  due = with_cell table extent marks.due lists.due;
  stale = with_cell table extent marks.stale lists.stale;
  waiting = with_cell table extent marks.waits lists.waiting;
  tables = lists.tables;
}

-- the lists say the same of each extent, and there is no less room
pub record KeepsMarks (old new : Lists) : Type 0 where
  pub same : (table extent : ℕ) → marks_at new table extent ≡ marks_at old table extent
  pub room : (table extent : ℕ) → HasMarks old table extent → HasMarks new table extent
  pub few : old.tables ≤ 2 ^ 32 → new.tables ≤ 2 ^ 32

module _ {U : Type 0} where
  -- what is kept of all extents, and no build
  abbrev pub only_slots : List (List (Slot U)) → Kept U
  only_slots slots = record { slots = slots; builds = [] }

  -- some extents wait no more, and nothing else has changed
  pub record RestsSome (old new : List (List (Slot U))) : Type 0 where
    pub same : (t e : ℕ) → slot_rested (slot_at new t e) ≡ slot_rested (slot_at old t e)
    pub less : (t e : ℕ) → (slot_at old t e).waits ≡ false → (slot_at new t e).waits ≡ false
    pub room : (t e : ℕ) → HasCell old t e → HasCell new t e

  -- no extent of a table waits
  pub record NoneWaits (table : ℕ) (slots : List (List (Slot U))) : Type 0 where
    pub each : (extent : ℕ) → (slot_at slots table extent).waits ≡ false

module _ {U : Type 0} (content : U → Content) where
  -- what is to be said of an extent
  abbrev pub marks_of : Told U → Marks
  marks_of told = record {
    taken = not (is_empty told);
    due = is_due content told;
    stale = is_stale content told;
    waits = told.waits;
  }

  -- the lists say of each extent what is to be said of it, with room for the marks of each that has a place, and the bytes that
  -- all units count for are known
  pub record AreListed (slots : List (List (Slot U))) (lists : Lists) (bytes : ℕ) : Type 0 where
    pub marks : (table extent : ℕ) → marks_at lists table extent ≡ marks_of (told (slot_at slots table extent))
    pub room : (table extent : ℕ) → HasCell slots table extent → HasMarks lists table extent
    pub few : lists.tables ≤ 2 ^ 32
    pub used : bytes ≡ used_in content slots
