-- What it means that the blocks are those of a history.
use Rattle.std.specs.Prelude.{◌≡◌, ℕ, ◌<◌, ◌≤◌}
use Rattle.im_history.specs.History.{History}
use Rattle.im_history.specs.Horizon.{horizon}
use Rattle.im_history.specs.Touched.{last_touch}
use Rattle.im_versions.specs.Versions.{cut}
use Rattle.im_blocks.specs.Chains.{AllVersions, newest_scn, versions_at}
use Rattle.im_blocks.specs.VersionsOf.{versions_of}

-- each row number of each table has of the versions that the history gave it those that may be asked for, from the horizon on
pub record IsKept (history : History) (blocks : AllVersions) : Type 0 where
  pub each : (table rid : ℕ) → versions_at blocks table rid ≡ cut (horizon history) (versions_of history table rid)

-- whether a commit behind an SCN that may be asked for touched a row, and which was the last: the newest version says so
pub record TellsTouches (history : History) (blocks : AllVersions) : Type 0 where
  pub later : (table rid scn : ℕ) → scn < newest_scn (versions_at blocks table rid) → newest_scn (versions_at blocks table rid) ≡ last_touch history table rid
  pub not_later : (table rid scn : ℕ) → horizon history ≤ scn → newest_scn (versions_at blocks table rid) ≤ scn → last_touch history table rid ≤ scn
