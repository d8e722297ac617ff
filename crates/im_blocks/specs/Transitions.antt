-- What the calls do to all versions, row number by row number.
use Rattle.std.specs.Prelude.{◌≡◌, ℕ, ◌<◌, ◌≤◌, Bool, List, ◌++◌}
use Rattle.im_tables.specs.Table.{HasCell}
use Rattle.im_versions.specs.Versions.{IsRising, cut}
use Rattle.im_history.specs.declared.change.Change.{Change}
use Rattle.im_blocks.specs.Chains.{AllVersions, IsReady, versions_at, newest_scn}
use Rattle.im_blocks.specs.VersionsOf.{version_by}

-- each row has the versions that it had, and no less room
pub record SameVersions (old new : AllVersions) : Type 0 where
  pub versions : (table rid : ℕ) → versions_at new table rid ≡ versions_at old table rid
  pub ready : (table rid : ℕ) (put : Bool) → IsReady old table rid put → IsReady new table rid put
  pub cells : (table rid : ℕ) → HasCell old.slots table rid → HasCell new.slots table rid
  pub room : old.room ≤ new.room

-- the newest version of each row is of an earlier commit than this one
pub record IsBefore (blocks : AllVersions) (scn : ℕ) : Type 0 where
  pub each : (table rid : ℕ) → newest_scn (versions_at blocks table rid) < scn

-- each row has one version more where the changes of the commit touch it, and else those that it had
pub record Applied (old new : AllVersions) (scn : ℕ) (changes : List Change) : Type 0 where
  pub versions : (table rid : ℕ) → versions_at new table rid ≡ versions_at old table rid ++ version_by scn changes table rid

-- of each row's versions, which rise, there is left what readings at a floor and above it ask for
pub record Purged (old new : AllVersions) (floor : ℕ) : Type 0 where
  pub versions : (table rid : ℕ) → versions_at new table rid ≡ cut floor (versions_at old table rid)
  pub rising : (table rid : ℕ) → IsRising (versions_at old table rid)
