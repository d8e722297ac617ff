-- What is kept of each extent and of each build, read by their numbers.
use Rattle.std.specs.Prelude.{ℕ, zero, suc, Bool, false, List, [], map, filter_map, slice_index_or, Option, Some, None}
use Rattle.std.specs.Option.{option_map}
use Rattle.im_tables.specs.Table.{cell_at}
use Rattle.im_journal.specs.Stale.{Note, stale_rows_at}
use Rattle.im_history.specs.declared.task.Held.{Held}
use Rattle.im_directory.specs.declared.journals.Current.{Current}
use Rattle.im_directory.specs.declared.journals.Growing.{Growing}

-- what is kept of an extent: its current unit and its living build, each with its journal, whether it waits for room in the area, and
-- how many notes a commit will make in each journal, counted while room is made for them
pub record Slot (U : Type 0) : Type 0 where
  pub current : Option (Current U)
  pub growing : Option Growing
  pub waits : Bool
  pub wanted : ℕ

-- what is kept of all extents, by table and extent, and of all builds that were begun, the first of which is build 1: those that
-- are held, and nothing of the others
pub record Kept (U : Type 0) : Type 0 where
  pub slots : List (List (Slot U))
  pub builds : List (Option Held)

-- a current unit, and what was touched since its SCN
pub record Stock (U : Type 0) : Type 0 where
  pub unit : U
  pub notes : List Note

-- a living build, and what was touched since it began
pub record Growth : Type 0 where
  pub id : ℕ
  pub notes : List Note

-- what is read of an extent: all that is kept but the room in its journals
pub record Told (U : Type 0) : Type 0 where
  pub current : Option (Stock U)
  pub growing : Option Growth
  pub waits : Bool

-- what is read of a living build
abbrev pub growth : Growing → Growth
growth growing = record { id = growing.id; notes = growing.journal.notes }

-- the held build of this number among all builds that began, which are numbered from 1
abbrev pub build_among : List (Option Held) → ℕ → Option Held
build_among builds zero = None
build_among builds (suc before) = slice_index_or builds before None

-- all held builds, in the order in which they began
abbrev pub held_among : List (Option Held) → List Held
held_among builds = filter_map (λ build. build) builds

-- their SCNs
abbrev pub scns_among : List (Option Held) → List ℕ
scns_among builds = map (λ held. held.task.scn) (held_among builds)

module _ {U : Type 0} where
  -- an extent of which nothing is kept
  abbrev pub nothing : Slot U
  nothing = record { current = None; growing = None; waits = false; wanted = 0 }

  -- what is read of a current unit
  abbrev pub stock : Current U → Stock U
  stock current = record { unit = current.unit.value; notes = current.journal.notes }

  -- what is read of an extent
  abbrev pub told : Slot U → Told U
  told slot = record { current = option_map stock slot.current; growing = option_map growth slot.growing; waits = slot.waits }

  -- what is kept of an extent; past the ends there is nothing
  abbrev pub slot_at : List (List (Slot U)) → ℕ → ℕ → Slot U
  slot_at slots table extent = cell_at nothing slots table extent

  -- what is read of an extent
  abbrev pub told_at : Kept U → ℕ → ℕ → Told U
  told_at kept table extent = told (slot_at kept.slots table extent)

  -- the held build of this number
  abbrev pub build_in : Kept U → ℕ → Option Held
  build_in kept id = build_among kept.builds id

  -- the number of an extent's living build
  abbrev pub living_in : Kept U → ℕ → ℕ → Option ℕ
  living_in kept table extent = option_map (λ (growth : Growth). growth.id) (told_at kept table extent).growing

  -- an extent's current unit
  abbrev pub unit_in : Kept U → ℕ → ℕ → Option U
  unit_in kept table extent = option_map (λ (stock : Stock U). stock.unit) (told_at kept table extent).current

  -- what was touched since a current unit's SCN, nothing where there is no unit
  abbrev pub notes_of_unit : Option (Stock U) → List Note
  notes_of_unit None = []
  notes_of_unit (Some stock) = stock.notes

  -- what was touched of an extent since its current unit's SCN
  abbrev pub notes_in : Kept U → ℕ → ℕ → List Note
  notes_in kept table extent = notes_of_unit (told_at kept table extent).current

  -- the row numbers of an extent that commits behind its current unit's SCN and up to this one touched
  abbrev pub stale_told : Kept U → ℕ → ℕ → ℕ → List ℕ
  stale_told kept table extent to = stale_rows_at (notes_in kept table extent) to
