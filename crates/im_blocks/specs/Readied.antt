-- Changes that are ready to be put in, and the room of each.
use Rattle.std.specs.Prelude.{◌≡◌, ℕ, ◌<◌, ◌≤◌, true, List, [], ◌∷◌, length}
use Rattle.std.specs.List.{All, flat_map}
use Rattle.std.specs.Option.{is_some}
use Rattle.im_tables.specs.Table.{HasCell}
use Rattle.im_history.specs.Puts.{put_from}
use Rattle.im_history.specs.declared.change.Change.{Change}
use Rattle.im_blocks.specs.declared.ready.Ready.{Ready}
use Rattle.im_blocks.specs.declared.ready.Ready.TheVariants.{Run, One}
use Rattle.im_blocks.specs.Chains.{AllVersions, IsReady, versions_at}
use Rattle.im_blocks.specs.Runs.{is_in}

-- the changes of one
abbrev pub changes_of : Ready → List Change
changes_of (Run table first rows) = put_from table first rows
changes_of (One change) = change ∷ []

-- those of all, one behind another
abbrev pub ready_changes : List Ready → List Change
ready_changes ready = flat_map changes_of ready

-- so many row numbers of a table from the first on have no version
pub record IsFree (blocks : AllVersions) (table first count : ℕ) : Type 0 where
  pub each : (t r : ℕ) → is_in table first count t r ≡ true → versions_at blocks t r ≡ []

-- and each has a slot
pub record IsFreeRun (blocks : AllVersions) (table first count : ℕ) : Type 0 where
  pub some : 0 < count
  pub cells : (t r : ℕ) → is_in table first count t r ≡ true → HasCell blocks.slots t r
  pub free : IsFree blocks table first count

-- there is room for one
abbrev pub HasPlace : AllVersions → Ready → Type 0
HasPlace blocks (Run table first rows) = IsFreeRun blocks table first (length rows)
HasPlace blocks (One change) = IsReady blocks change.table change.rid (is_some change.row)

-- there is room for all
pub record HasRoom (blocks : AllVersions) (ready : List Ready) : Type 0 where
  pub each : All (HasPlace blocks) ready
  pub runs : length ready ≤ blocks.room

-- these changes are ready, in order
pub record IsReadyFor (blocks : AllVersions) (ready : List Ready) (changes : List Change) : Type 0 where
  pub changes_are : ready_changes ready ≡ changes
  pub room : HasRoom blocks ready
