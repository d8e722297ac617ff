-- What the images of pages show.
use Rattle.std.specs.Prelude.{◌≡◌, ℕ, ◌+◌, ◌*◌, ◌/◌, ◌%◌, ◌<◌, ◌≤◌, true, false, List, length, get_or, slice_get, Option, Some, None}
use Rattle.std.specs.List.{All}
use Rattle.im_tables.specs.Table.{cell_at}
use Rattle.im_values.specs.declared.content.Content.{Content as Value}
use Rattle.im_versions.specs.Versions.{row_at}
use Rattle.im_blocks.specs.declared.image.Image.{Image}
use Rattle.im_blocks.specs.declared.pages.Page.{Page}
use Rattle.im_blocks.specs.declared.ready.Ready.{Ready}
use Rattle.im_blocks.specs.declared.ready.Ready.TheVariants.{Run, One}
use Rattle.im_blocks.specs.Chains.{AllVersions, versions_at}

-- a page without an image
abbrev pub no_page : Page
no_page = record { apart = 0; read = 0; noted = 0; image = None }

-- a page shows a row at a place and an SCN
pub record Shows (page : Page) (place scn : ℕ) (row : Option (List Value)) : Type 0 where
  pub image : Image
  pub is : page.image ≡ Some image
  pub fresh : get_or image.fresh.items place false ≡ true
  pub there : place < length image.rows
  pub from : image.scn ≤ scn
  pub row_is : slice_get image.rows place ≡ row

-- the page of a number of a table
abbrev pub page_at : List (List Page) → ℕ → ℕ → Page
page_at pages table number = cell_at no_page pages table number

-- what pages show at a floor and above it is what the versions have
pub record AreShown (blocks : AllVersions) (floor : ℕ) (pages : List (List Page)) : Type 0 where
  pub each : (table number place scn : ℕ) (row : Option (List Value)) → place < 2048 → floor ≤ scn → Shows (page_at pages table number) place scn row
      → row_at (versions_at blocks table (number * 2048 + place)) scn ≡ row

-- pages show what the versions have from each floor on from which others did
pub record StayShown (blocks : AllVersions) (old new : List (List Page)) : Type 0 where
  pub each : (floor : ℕ) → AreShown blocks floor old → AreShown blocks floor new

-- a page shows no more than before
pub record ShowsWithin (old new : Page) : Type 0 where
  pub each : (place scn : ℕ) (row : Option (List Value)) → Shows new place scn row → Shows old place scn row

-- a page shows nothing at a place
pub record ShowsNone (page : Page) (place : ℕ) : Type 0 where
  pub none : (scn : ℕ) (row : Option (List Value)) → Shows page place scn row → ⊥

-- a page shows no more than before, and nothing at a place
pub record IsNoted (old new : Page) (place : ℕ) : Type 0 where
  pub within : ShowsWithin old new
  pub gone : ShowsNone new place

-- no page shows more than before
pub record ShowWithin (old new : List (List Page)) : Type 0 where
  pub each : (table number : ℕ) → ShowsWithin (page_at old table number) (page_at new table number)

-- a row number is not shown
abbrev pub IsHidden : List (List Page) → ℕ → ℕ → Type 0
IsHidden pages table rid = ShowsNone (page_at pages table (rid / 2048)) (rid % 2048)

-- no page shows more than before, and none shows this row number
pub record IsNotedAt (old new : List (List Page)) (table rid : ℕ) : Type 0 where
  pub within : ShowWithin old new
  pub gone : IsHidden new table rid

-- the row number that a change is to, or the first of those that rows are put at, and its table
abbrev pub place_in : Ready → ℕ × ℕ
place_in (Run table first rows) = (table, first)
place_in (One change) = (change.table, change.rid)

-- the row that a change touches alone is not shown
abbrev pub HidesOne : List (List Page) → Ready → Type 0
HidesOne pages (Run table first rows) = Unit {0}
HidesOne pages (One change) = IsHidden pages change.table change.rid

-- no page shows more than before, and none shows a row that one of these changes alone touches
pub record AreNoted (old new : List (List Page)) (ready : List Ready) : Type 0 where
  pub within : ShowWithin old new
  pub gone : All (HidesOne new) ready
