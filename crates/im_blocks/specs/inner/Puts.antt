-- What puts rows into a run or a version into a chain.
use Rattle.std.specs.Prelude.{◌≡◌, ℕ, ◌<◌, ◌≤◌, ◌==◌, true, false, List, [], ◌∷◌, ◌++◌, get_or, length, Option, if◌then◌else◌}
use Rattle.im_values.specs.declared.content.Content.{Content as Value}
use Rattle.im_tables.specs.Table.{HasCell, cell_at}
use Rattle.im_versions.specs.declared.version.Version.{Version}
use Rattle.im_blocks.specs.declared.run.Run.{Run}
use Rattle.im_blocks.specs.declared.slot.Slot.{Slot}
use Rattle.im_blocks.specs.declared.slot.Slot.TheVariants.{Empty, InRun}
use Rattle.im_blocks.specs.declared.touched.Touched.{Touched}
use Rattle.im_blocks.specs.Chains.{newest_scn, versions_in}
use Rattle.im_blocks.specs.Runs.{holds, in_rows}

module _ (runs : List Run) (chains : List Touched) (number : ℕ) (run : Run) where
  -- the slot of a row number that goes into a new run of this number, unless it shows a version of the run's commit
  abbrev pub entered : ℕ → ℕ → Slot → Slot
  entered t r slot = if newest_scn (versions_in runs chains t r slot) == run.scn then slot else InRun number

  -- of the slots of a table those of so many row numbers from the run's first on went into it
  pub record AreEntered (count : ℕ) (old new : List Slot) : Type 0 where
    pub each : (r : ℕ) → get_or new r Empty
        ≡ (if in_rows run.first count r then entered run.table r (get_or old r Empty) else get_or old r Empty)
    pub long : length new ≡ length old

  -- of all slots those of the run's row numbers went into it
  pub record HasEntered (old new : List (List Slot)) : Type 0 where
    pub here : (t r : ℕ) → holds run t r ≡ true → cell_at Empty new t r ≡ entered t r (cell_at Empty old t r)
    pub others : (t r : ℕ) → holds run t r ≡ false → cell_at Empty new t r ≡ cell_at Empty old t r
    pub cells : (t r : ℕ) → HasCell old t r → HasCell new t r

-- a chain of a row number was added behind the others, with room for a version
pub record IsChained (old new : List Touched) (number table rid : ℕ) (versions : List Version) : Type 0 where
  pub chain : Touched
  pub new_is : new ≡ old ++ chain ∷ []
  pub at : number ≡ length old
  pub table_is : chain.table ≡ table
  pub rid_is : chain.rid ≡ rid
  pub versions_are : chain.chain.versions ≡ versions
  pub room : 0 < chain.chain.spare

-- a chain of the same row number and versions, with no less room
pub record IsRoomier (old new : Touched) : Type 0 where
  pub table_is : new.table ≡ old.table
  pub rid_is : new.rid ≡ old.rid
  pub versions_are : new.chain.versions ≡ old.chain.versions
  pub more : old.chain.spare ≤ new.chain.spare

-- a chain of the same row number with one version more
pub record IsOneLonger (old new : Touched) (scn : ℕ) (row : Option (List Value)) : Type 0 where
  pub table_is : new.table ≡ old.table
  pub rid_is : new.rid ≡ old.rid
  pub versions_are : new.chain.versions ≡ old.chain.versions ++ record { scn = scn; row = row } ∷ []
