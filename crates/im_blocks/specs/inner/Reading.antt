-- The steps of reading row numbers in a row.
use Rattle.std.specs.Prelude.{◌≡◌, ℕ, ◌+◌, ◌-◌, ◌*◌, ◌%◌, ◌^◌, ◌<◌, ◌≤◌, true, false, get_or, length, slice_get}
use Rattle.im_blocks.specs.declared.version_table.extents.Asked.{Asked}
use Rattle.im_blocks.specs.declared.image.Image.{Image}
use Rattle.im_blocks.specs.declared.slot.Slot.TheVariants.{InRun}
use Rattle.im_blocks.specs.declared.gathered.Gathered.{Gathered}
use Rattle.im_versions.specs.Versions.{row_at}
use Rattle.im_blocks.specs.Chains.{AllVersions, rows_at, slot_at, versions_at}
use Rattle.im_blocks.specs.inner.Gathering.{Gathers}

-- row numbers from one up to another, which are among those asked, were read behind others
pub record AreRead (blocks : AllVersions) (asked : Asked) (rid next : ℕ) (old new : Gathered) : Type 0 where
  pub from : rid < next
  pub upto : next ≤ asked.end
  pub rows : Gathers old new (rows_at blocks asked.table rid (next - rid) asked.scn)

-- row numbers from one up to another are asked for, and are in the run of a number, which has so many from its first on
pub record EndsIn (blocks : AllVersions) (asked : Asked) (rid number first count next : ℕ) : Type 0 where
  pub from : rid < next
  pub upto : next ≤ asked.end
  pub behind : first ≤ rid
  pub inside : next ≤ first + count
  pub small : next ≤ 2 ^ 63
  pub slots : (r : ℕ) → rid ≤ r → r < next → slot_at blocks asked.table r ≡ InRun number

-- the same is asked for, up to a row number that lies behind this one
pub record IsPartOf (part whole : Asked) (rid : ℕ) : Type 0 where
  pub table_is : part.table ≡ whole.table
  pub scn_is : part.scn ≡ whole.scn
  pub behind : rid < part.end
  pub upto : part.end ≤ whole.end

-- what the image of a page of this number shows is what stands there at an SCN
pub record IsReadable (blocks : AllVersions) (table number scn : ℕ) (image : Image) : Type 0 where
  pub each : (place : ℕ) → place < 2048 → place < length image.rows → get_or image.fresh.items place false ≡ true
      → row_at (versions_at blocks table (number * 2048 + place)) scn ≡ slice_get image.rows place

-- an image shows all row numbers from one up to another, which are among those asked
pub record IsShownTo (image : Image) (asked : Asked) (rid next : ℕ) : Type 0 where
  pub from : rid ≤ next
  pub upto : next ≤ asked.end
  pub within : rid < next → rid % 2048 + (next - rid) ≤ length image.rows
  pub in_page : rid % 2048 + (next - rid) ≤ 2048
  pub each : (place : ℕ) → rid % 2048 ≤ place → place < rid % 2048 + (next - rid) → get_or image.fresh.items place false ≡ true
