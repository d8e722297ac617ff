-- What a single call does to what is kept of one extent.
use Rattle.std.specs.Prelude.{◌≡◌, ℕ, ◌+◌, ◌-◌, ◌/◌, ◌≤◌, ◌<◌, ◌==◌, ◌||◌, Bool, false, max, List, [], length, All, filter, fold, set, Option, Some, None, is_some, if◌then◌else◌}
use Rattle.std.specs.Option.{option_map, ForSome}
use Rattle.std.specs.declared.alloc.Global.{Global}
use Rattle.std.specs.declared.sync.Arc.{Arc}
use Rattle.im_tables.specs.Table.{HasCell, row_of, with_cell}
use Rattle.im_journal.specs.Stale.{Note, Notes, noted}
use Rattle.im_history.specs.declared.change.Change.{Change}
use Rattle.im_history.specs.declared.look.TableInfo.{TableInfo}
use Rattle.im_history.specs.declared.task.Held.{Held}
use Rattle.im_history.specs.Grid.{per_extent}
use Rattle.im_history.specs.Tables.{table_among}
use Rattle.im_history.specs.Transactions.{or_here}
use Rattle.im_history.specs.Views.{grid_of}
use Rattle.im_directory.specs.declared.range.ExtentRange.{ExtentRange}
use Rattle.im_directory.specs.declared.journals.Current.{Current}
use Rattle.im_directory.specs.declared.journals.Growing.{Growing}
use Rattle.im_directory.specs.Effects.{NoneBehind, extent_in, is_in_extent, noted_in, notes_for, notes_of}
use Rattle.im_directory.specs.Slots.{Slot, build_among, nothing, slot_at, told}

-- a journal with a note more
abbrev pub with_note : Note → Notes → Notes
with_note note journal = record { notes = noted journal.notes note; spare = journal.spare - 1 }

-- a journal with room for so many notes
abbrev pub with_room : ℕ → Notes → Notes
with_room count journal = record journal { spare = max journal.spare count }

-- a journal can take a note of the commit with this SCN
pub record MayTake (journal : Notes) (scn : ℕ) : Type 0 where
  pub room : 1 ≤ journal.spare
  pub later : NoneBehind scn journal.notes

-- a held build that an entry at this place kills, unless one killed it before
abbrev pub killed_at : ℕ → Held → Held
killed_at place held = record held { killed = or_here place held.killed }

-- the builds, that of this number killed by an entry at this place
abbrev pub builds_killed : ℕ → Option ℕ → List (Option Held) → List (Option Held)
builds_killed place None builds = builds
builds_killed place (Some id) builds = set builds (id - 1) (option_map (killed_at place) (build_among builds id))

-- a living build with a note more
abbrev pub growing_noted : Note → Growing → Growing
growing_noted note growing = record growing { journal = with_note note growing.journal }

-- a living build, unless it has this number
abbrev pub growing_unless : ℕ → Option Growing → Option Growing
growing_unless id None = None
growing_unless id (Some growing) = if growing.id == id then None else Some growing

-- the row numbers of a range are of its extent
pub record IsRange (tables : List TableInfo) (range : ExtentRange) : Type 0 where
  pub each : (rid : ℕ) → range.first ≤ rid → rid < range.first + range.count → rid / per_extent (grid_of (table_among tables range.table)) ≡ range.extent

-- a range has the row of this change
pub record IsWithin (range : ExtentRange) (change : Change) : Type 0 where
  pub same : change.table ≡ range.table
  pub first : range.first ≤ change.rid
  pub below : change.rid < range.first + range.count

module _ {U : Type 0} where
  -- a current unit with a note more
  abbrev pub current_noted : Note → Current U → Current U
  current_noted note current = record current { journal = with_note note current.journal }

  -- an extent with a note more in each of its journals
  abbrev pub slot_noted : Note → Slot U → Slot U
  slot_noted note slot = record slot { current = option_map (current_noted note) slot.current; growing = option_map (growing_noted note) slot.growing }

  -- both journals of an extent can take a note of the commit with this SCN
  pub record MayNote (slot : Slot U) (scn : ℕ) : Type 0 where
    pub current : ForSome slot.current (λ current. MayTake current.journal scn)
    pub growing : ForSome slot.growing (λ growing. MayTake growing.journal scn)

  -- an extent of which no note is counted
  abbrev pub slot_uncounted : Slot U → Slot U
  slot_uncounted slot = record slot { wanted = 0 }

  -- something is kept of an extent, so that there are notes to be made
  abbrev pub has_journal : Slot U → Bool
  has_journal slot = is_some slot.current || is_some slot.growing

  -- an extent with room for so many notes, which are counted
  abbrev pub slot_roomy : ℕ → Slot U → Slot U
  slot_roomy count slot = record slot {
    current = option_map (λ (current : Current U). record current { journal = with_room count current.journal }) slot.current;
    growing = option_map (λ (growing : Growing). record growing { journal = with_room count growing.journal }) slot.growing;
    wanted = count;
  }

  -- an extent with one note more counted, and room for as many as are counted
  abbrev pub slot_counted : Slot U → Slot U
  slot_counted slot = if has_journal slot then slot_roomy (slot.wanted + 1) slot else slot

  -- there is room for so many notes in both journals of an extent
  pub record HasSlotRoom (slot : Slot U) (count : ℕ) : Type 0 where
    pub current : ForSome slot.current (λ current. count ≤ current.journal.spare)
    pub growing : ForSome slot.growing (λ growing. count ≤ growing.journal.spare)

  -- an extent with a living build that begins
  abbrev pub slot_begun : ℕ → Slot U → Slot U
  slot_begun id slot = record slot { growing = Some (record { id = id; journal = record { notes = []; spare = 0 } }) }

  -- the unit of a living build, with its journal
  abbrev pub current_grown : Arc U Global → Growing → Current U
  current_grown unit growing = record { unit = unit; journal = growing.journal }

  -- an extent whose living build's unit is current
  abbrev pub slot_switched : Arc U Global → Slot U → Slot U
  slot_switched unit slot = record slot { current = option_map (current_grown unit) slot.growing; growing = None }

  -- an extent without the living build of this number, which waits where the build's unit did not fit
  abbrev pub slot_cancelled : ℕ → Bool → Slot U → Slot U
  slot_cancelled id full slot = record slot { growing = growing_unless id slot.growing; waits = slot.waits || full; wanted = 0 }

  -- an extent out of the column store
  abbrev pub slot_dropped : Slot U → Slot U
  slot_dropped slot = nothing

  -- an extent that waits no more
  abbrev pub slot_rested : Slot U → Slot U
  slot_rested slot = record slot { waits = false }

  -- no extent waits any more, and each has its place
  pub record AreRested (old new : List (List (Slot U))) : Type 0 where
    pub each : (table extent : ℕ) → slot_at new table extent ≡ slot_rested (slot_at old table extent)
    pub room : (table extent : ℕ) → HasCell old table extent → HasCell new table extent

  -- all extents, one of them having changed, if it is there
  abbrev pub slots_with : (Slot U → Slot U) → ℕ → ℕ → List (List (Slot U)) → List (List (Slot U))
  slots_with change table extent slots = with_cell table extent (change (slot_at slots table extent)) slots

  -- what is done to this extent of a change's table is done to the extent of its row: it is that one, or the table has none
  pub record IsFor (slots : List (List (Slot U))) (tables : List TableInfo) (change : Change) (extent : ℕ) : Type 0 where
    pub slot : slot_at slots change.table extent ≡ slot_at slots change.table (extent_in tables change)
    pub changed : (f : Slot U → Slot U) → slots_with f change.table extent slots ≡ slots_with f change.table (extent_in tables change) slots

  -- the tables of these changes have no extent here
  pub record HaveNoExtents (slots : List (List (Slot U))) (changes : List Change) : Type 0 where
    pub each : All (λ change. length (row_of slots change.table) ≡ 0) changes

  -- there is room in both journals of each extent for the notes of these changes
  pub record HasNotesRoom (slots : List (List (Slot U))) (tables : List TableInfo) (changes : List Change) : Type 0 where
    pub each : (table extent : ℕ) → HasSlotRoom (slot_at slots table extent) (notes_for tables changes table extent)

  -- no journal of an extent has a note of a later commit than this one
  pub record IsSlotBefore (slot : Slot U) (scn : ℕ) : Type 0 where
    pub current : ForSome slot.current (λ current. NoneBehind scn current.journal.notes)
    pub growing : ForSome slot.growing (λ growing. NoneBehind scn growing.journal.notes)

  -- no journal has a note of a later commit than this one
  pub record AreBefore (slots : List (List (Slot U))) (scn : ℕ) : Type 0 where
    pub each : (table extent : ℕ) → IsSlotBefore (slot_at slots table extent) scn

  -- the commit with this SCN noted its changes, and each extent has its place
  pub record AreNoted (old new : List (List (Slot U))) (tables : List TableInfo) (scn : ℕ) (changes : List Change) : Type 0 where
    pub each : (table extent : ℕ) → told (slot_at new table extent) ≡ noted_in (notes_of tables scn changes table extent) (told (slot_at old table extent))
    pub room : (table extent : ℕ) → HasCell old table extent → HasCell new table extent

  -- what is kept of an extent once each of these changes to a row of it has had an effect on it
  abbrev pub slot_through : (Change → Slot U → Slot U) → List TableInfo → List Change → ℕ → ℕ → Slot U → Slot U
  slot_through effect tables changes table extent slot = fold (λ slot change. effect change slot) slot (filter (is_in_extent tables table extent) changes)

  -- each of these changes has had an effect on the extent of its row, and each extent has its place
  pub record WentThrough (effect : Change → Slot U → Slot U) (old new : List (List (Slot U))) (tables : List TableInfo) (changes : List Change) : Type 0 where
    pub each : (table extent : ℕ) → slot_at new table extent ≡ slot_through effect tables changes table extent (slot_at old table extent)
    pub room : (table extent : ℕ) → HasCell old table extent → HasCell new table extent

  -- of each extent all is read as before, and each has its place
  pub record TellsAlike (old new : List (List (Slot U))) : Type 0 where
    pub each : (table extent : ℕ) → told (slot_at new table extent) ≡ told (slot_at old table extent)
    pub room : (table extent : ℕ) → HasCell old table extent → HasCell new table extent
