-- What lets go of versions, and what counts those that stand.
use Rattle.std.specs.Prelude.{◌≡◌, ℕ, ◌-◌, ◌<◌, ◌≤◌, [], List}
use Rattle.im_versions.specs.Versions.{IsRising, cut}
use Rattle.im_blocks.specs.declared.touched.Touched.{Touched}
use Rattle.im_blocks.specs.Chains.{AllVersions, chain_at, chain_versions, versions_at}
use Rattle.im_blocks.specs.Standing.{standing_among}

-- a chain of the same row number, with what is left of its versions at a floor
pub record IsPurged (old new : Touched) (floor : ℕ) : Type 0 where
  pub table_is : new.table ≡ old.table
  pub rid_is : new.rid ≡ old.rid
  pub versions_are : new.chain.versions ≡ cut floor old.chain.versions
  pub rising : IsRising old.chain.versions

-- so is each chain
pub record ArePurged (old new : List Touched) (floor : ℕ) : Type 0 where
  pub each : (number table rid : ℕ) → chain_versions (chain_at new number table rid) ≡ cut floor (chain_versions (chain_at old number table rid))
  pub rising : (number table rid : ℕ) → IsRising (chain_versions (chain_at old number table rid))

-- row numbers of a table from one up to another are counted, and have so many versions
pub record IsCounted (blocks : AllVersions) (table rid end next many : ℕ) : Type 0 where
  pub from : rid < next
  pub upto : next ≤ end
  pub are : standing_among blocks table rid (next - rid) ≡ many

-- no row number of a table from this one on has a version
pub record NoneFrom (blocks : AllVersions) (table : ℕ) : Type 0 where
  pub each : (t rid : ℕ) → table ≤ t → versions_at blocks t rid ≡ []
