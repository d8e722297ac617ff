-- What each call leaves.
use Rattle.std.specs.Prelude.{◌≡◌, ℕ, ◌-◌, ◌/◌, ◌≤◌, ◌==◌, ◌&&◌, ◌||◌, Bool, false, List, [], ◌∷◌, ◌++◌, map, filter, length, set, Option, Some, None, if◌then◌else◌}
use Rattle.std.specs.List.{fold}
use Rattle.std.specs.Option.{option_map, ForSome}
use Rattle.im_journal.specs.Stale.{Note, last_scn, noted}
use Rattle.im_history.specs.declared.change.Change.{Change}
use Rattle.im_history.specs.declared.entry.What.{What}
use Rattle.im_history.specs.declared.look.TableInfo.{TableInfo}
use Rattle.im_history.specs.declared.task.Held.{Held}
use Rattle.im_history.specs.Grid.{per_extent}
use Rattle.im_history.specs.Tables.{table_among}
use Rattle.im_history.specs.Units.{drops, is_on, killed_by}
use Rattle.im_history.specs.Views.{grid_of}
use Rattle.im_directory.specs.Slots.{Kept, Stock, Growth, Told, slot_at, told_at}

-- ---- what a commit notes

-- the extent of a change's row
abbrev pub extent_in : List TableInfo → Change → ℕ
extent_in tables change = change.rid / per_extent (grid_of (table_among tables change.table))

-- the change is to a row of this extent
abbrev pub is_in_extent : List TableInfo → ℕ → ℕ → Change → Bool
is_in_extent tables table extent change = (change.table == table) && (extent_in tables change == extent)

-- the notes that a commit of these changes makes of an extent: a row number and the commit's SCN for each change to it
abbrev pub notes_of : List TableInfo → ℕ → List Change → ℕ → ℕ → List Note
notes_of tables scn changes table extent = map (λ change. (change.rid, scn)) (filter (is_in_extent tables table extent) changes)

-- how many they are
abbrev pub notes_for : List TableInfo → List Change → ℕ → ℕ → ℕ
notes_for tables changes table extent = length (filter (is_in_extent tables table extent) changes)

-- a journal with more notes: the first of each row number counts
abbrev pub with_notes : List Note → List Note → List Note
with_notes more notes = fold noted notes more

-- none of the notes is of a later commit
abbrev pub NoneBehind : ℕ → List Note → Type 0
NoneBehind scn notes = ForSome (last_scn notes) (λ last. last ≤ scn)

-- a living build, unless it has this number
abbrev pub unless_of : ℕ → Option Growth → Option Growth
unless_of id None = None
unless_of id (Some growth) = if growth.id == id then None else Some growth

module _ {U : Type 0} where
  -- what is read of an extent once both its journals have these notes
  abbrev pub noted_in : List Note → Told U → Told U
  noted_in more told = record told {
    current = option_map (λ (stock : Stock U). record stock { notes = with_notes more stock.notes }) told.current;
    growing = option_map (λ (growth : Growth). record growth { notes = with_notes more growth.notes }) told.growing;
  }

  -- there is room in both journals of each extent for the notes of these changes
  pub record HasRoom (kept : Kept U) (tables : List TableInfo) (changes : List Change) : Type 0 where
    pub current : (table extent : ℕ) → ForSome (slot_at kept.slots table extent).current
        (λ current. notes_for tables changes table extent ≤ current.journal.spare)
    pub growing : (table extent : ℕ) → ForSome (slot_at kept.slots table extent).growing
        (λ growing. notes_for tables changes table extent ≤ growing.journal.spare)

  -- no journal has a note of a later commit than this one
  pub record IsBefore (kept : Kept U) (scn : ℕ) : Type 0 where
    pub current : (table extent : ℕ) → ForSome (told_at kept table extent).current (λ stock. NoneBehind scn stock.notes)
    pub growing : (table extent : ℕ) → ForSome (told_at kept table extent).growing (λ growth. NoneBehind scn growth.notes)

  -- ---- what is read after each call

  -- nothing was begun
  pub record IsNew (kept : Kept U) : Type 0 where
    pub slots : kept.slots ≡ []
    pub builds : kept.builds ≡ []

  -- all is read as before
  pub record SameTold (old new : Kept U) : Type 0 where
    pub slots : (table extent : ℕ) → told_at new table extent ≡ told_at old table extent
    pub builds : new.builds ≡ old.builds

  -- this build began, with an empty journal
  pub record IsBegun (old new : Kept U) (held : Held) : Type 0 where
    pub slots : (table extent : ℕ) → told_at new table extent
        ≡ (if is_on table extent held then record (told_at old table extent) {
          growing =
              Some (record { id = held.task.id; notes = [] });
        } else told_at old table extent)
    pub builds : new.builds ≡ old.builds ++ Some held ∷ []

  -- the commit with this SCN noted its changes
  pub record IsNoted (old new : Kept U) (tables : List TableInfo) (scn : ℕ) (changes : List Change) : Type 0 where
    pub slots : (table extent : ℕ) → told_at new table extent ≡ noted_in (notes_of tables scn changes table extent) (told_at old table extent)
    pub builds : new.builds ≡ old.builds

  -- a unit with the journal of the build that made it
  abbrev pub grown : U → Option Growth → Option (Stock U)
  grown unit growing = option_map (λ growth. record { unit = unit; notes = growth.notes }) growing

  -- this build ended, and its unit is current, with the build's journal
  pub record IsSwitched (old new : Kept U) (held : Held) (unit : U) : Type 0 where
    pub slots : (table extent : ℕ) → told_at new table extent
        ≡ (if is_on table extent held then record (told_at old table extent) {
          current =
              grown unit (told_at old table extent).growing;
          growing = None;
        } else told_at old table extent)
    pub builds : new.builds ≡ set old.builds (held.task.id - 1) None

  -- an extent whose build of this number ends without its unit, which did not fit into the area or was not used
  abbrev pub ended_in : ℕ → Bool → Told U → Told U
  ended_in id full told = record told { growing = unless_of id told.growing; waits = told.waits || full }

  -- this build ended, and its unit is not used: where it did not fit into the area, the extent waits
  pub record IsCancelled (old new : Kept U) (held : Held) (full : Bool) : Type 0 where
    pub slots : (table extent : ℕ) → told_at new table extent
        ≡ (if is_on table extent held then ended_in held.task.id full (told_at old table extent) else told_at old table extent)
    pub builds : new.builds ≡ set old.builds (held.task.id - 1) None

  -- an extent that waits no more
  abbrev pub rested_in : Told U → Told U
  rested_in told = record told { waits = false }

  -- an entry at this place took extents out of the column store: their units are gone, and their living builds are killed. No
  -- extent waits any more
  pub record IsDropped (old new : Kept U) (place : ℕ) (what : What) : Type 0 where
    pub slots : (table extent : ℕ) → told_at new table extent ≡
        (if drops table extent what then record { current = None; growing = None; waits = false } else rested_in (told_at old table extent))
    pub builds : new.builds ≡ map (option_map (killed_by place what)) old.builds
