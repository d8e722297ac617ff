-- The versions of all rows, read by table and row number.
use Rattle.std.specs.Prelude.{◌≡◌, ℕ, ◌<◌, ◌==◌, ◌&&◌, Bool, true, List, [], ◌∷◌, map, unwrap_or, slice_get, Option, None, Some, if◌then◌else◌}
use Rattle.std.specs.List.{range_with_len}
use Rattle.im_values.specs.declared.content.Content.{Content as Value}
use Rattle.im_tables.specs.Table.{HasCell, cell_at}
use Rattle.im_versions.specs.declared.version.Version.{Version}
use Rattle.im_versions.specs.Versions.{latest, row_at}
use Rattle.im_blocks.specs.declared.run.Run.{Run}
use Rattle.im_blocks.specs.declared.slot.Slot.{Slot}
use Rattle.im_blocks.specs.declared.slot.Slot.TheVariants.{Empty, InRun, InChain}
use Rattle.im_blocks.specs.declared.touched.Touched.{Touched}
use Rattle.im_blocks.specs.Runs.{holds, version_in}

-- all versions as contracts see them: where those of each row number are kept, the runs, the chains, and how many runs more can be put
-- on without taking memory
pub record AllVersions : Type 0 where
  pub slots : List (List Slot)
  pub runs : List Run
  pub chains : List Touched
  pub room : ℕ

-- no versions
abbrev pub no_versions : AllVersions
no_versions = record { slots = []; runs = []; chains = []; room = 0 }

-- where the versions of a row number are kept; past the ends nowhere
abbrev pub slot_at : AllVersions → ℕ → ℕ → Slot
slot_at blocks table rid = cell_at Empty blocks.slots table rid

-- what was found, if it is the one that was looked for
abbrev pub only : {X : Type 0} → (X → Bool) → Option X → Option X
only is None = None
only is (Some x) = if is x then Some x else None

-- the run of this number, if it holds the row number
abbrev pub run_at : List Run → ℕ → ℕ → ℕ → Option Run
run_at runs number table rid = only (λ run. holds run table rid) (slice_get runs number)

-- a chain is that of a row number
abbrev pub is_of : Touched → ℕ → ℕ → Bool
is_of touched table rid = (touched.table == table) && (touched.rid == rid)

-- the chain of this number, if it is that of the row number
abbrev pub chain_at : List Touched → ℕ → ℕ → ℕ → Option Touched
chain_at chains number table rid = only (λ touched. is_of touched table rid) (slice_get chains number)

-- the version in a run, if there is one
abbrev pub run_versions : ℕ → Option Run → List Version
run_versions rid None = []
run_versions rid (Some run) = version_in run rid ∷ []

-- the versions of a chain, if there is one
abbrev pub chain_versions : Option Touched → List Version
chain_versions None = []
chain_versions (Some touched) = touched.chain.versions

-- the versions that are kept in a slot for a row number
abbrev pub versions_in : List Run → List Touched → ℕ → ℕ → Slot → List Version
versions_in runs chains table rid Empty = []
versions_in runs chains table rid (InRun number) = run_versions rid (run_at runs number table rid)
versions_in runs chains table rid (InChain number) = chain_versions (chain_at chains number table rid)

-- the versions of a row number of a table
unfoldable pub versions_at : AllVersions → ℕ → ℕ → List Version
versions_at blocks table rid = versions_in blocks.runs blocks.chains table rid (slot_at blocks table rid)

-- the room of a chain, if there is one
abbrev pub chain_spare : Option Touched → ℕ
chain_spare None = 0
chain_spare (Some touched) = touched.chain.spare

-- how many versions more a row number's chain can take without memory
abbrev pub spare_in : List Touched → ℕ → ℕ → Slot → ℕ
spare_in chains table rid Empty = 0
spare_in chains table rid (InRun number) = 0
spare_in chains table rid (InChain number) = chain_spare (chain_at chains number table rid)

-- a row number can take the row of a commit, or that there is none then: it has a chain with room; or it is blank, and a row is put
pub data IsReady (blocks : AllVersions) (table rid : ℕ) (put : Bool) : Type 0 where
  HasChain : 0 < spare_in blocks.chains table rid (slot_at blocks table rid) → IsReady blocks table rid put
  IsBlank : put ≡ true → slot_at blocks table rid ≡ Empty → HasCell blocks.slots table rid → IsReady blocks table rid put

-- the SCN of the newest version, 0 where there is none
abbrev pub newest_scn : List Version → ℕ
newest_scn versions = unwrap_or (latest versions) 0

-- these row numbers of a table, each with its row at an SCN
abbrev pub rows_among : AllVersions → ℕ → List ℕ → ℕ → List (ℕ × Option (List Value))
rows_among blocks table rids scn = map (λ rid. (rid, row_at (versions_at blocks table rid) scn)) rids

-- so many row numbers of a table from the first on, each with its row at an SCN
abbrev pub rows_at : AllVersions → ℕ → ℕ → ℕ → ℕ → List (ℕ × Option (List Value))
rows_at blocks table first count scn = rows_among blocks table (range_with_len first count) scn
