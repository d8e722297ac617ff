-- How an image is made of the newest rows.
use Rattle.std.specs.Prelude.{◌≡◌, ℕ, ◌+◌, ◌*◌, ◌<◌, ◌≤◌, Bool, true, false, List, [], ◌∷◌, ◌++◌, length, get_or, slice_get, Option, Some}
use Rattle.im_values.specs.Stretches.{cut}
use Rattle.im_values.specs.declared.content.Content.{Content as Value}
use Rattle.im_versions.specs.Versions.{newest_row, row_at}
use Rattle.im_blocks.specs.declared.drawing.Draft.{Draft}
use Rattle.im_blocks.specs.declared.image.Image.{Image}
use Rattle.im_blocks.specs.Chains.{AllVersions, versions_at}

-- the rows of a draft
abbrev pub drawn : Draft → List (List Value)
drawn d = cut (length d.fresh.items) d.width d.values.items

-- the values are those of a row for each flag
abbrev pub IsWhole : Draft → Type 0
IsWhole d = length d.values.items ≡ length d.fresh.items * d.width

-- a row was put behind the others
pub record DrawsRow (old new : Draft) (row : List Value) (fresh : Bool) : Type 0 where
  pub rows : drawn new ≡ drawn old ++ row ∷ []
  pub flags : new.fresh.items ≡ old.fresh.items ++ fresh ∷ []
  pub whole : IsWhole new
  pub width_is : new.width ≡ old.width

-- some row was put behind the others: where it is fresh, it is this one
pub record Draws (old new : Draft) (row : Option (List Value)) : Type 0 where
  pub put : List Value
  pub fresh : Bool
  pub drawn_so : DrawsRow old new put fresh
  pub is : fresh ≡ true → row ≡ Some put

-- so many rows are drawn, and each that is fresh is what the newest version of its row number left
pub record IsDrawnTo (blocks : AllVersions) (table first count : ℕ) (d : Draft) : Type 0 where
  pub long : length d.fresh.items ≡ count
  pub whole : IsWhole d
  pub each : (i : ℕ) → get_or d.fresh.items i false ≡ true → newest_row (versions_at blocks table (first + i)) ≡ slice_get (drawn d) i

-- each row of an image that is fresh is that of its row number from the image's SCN on
pub record IsImageOf (blocks : AllVersions) (table first : ℕ) (image : Image) : Type 0 where
  pub each : (i scn : ℕ) → get_or image.fresh.items i false ≡ true → image.scn ≤ scn → row_at (versions_at blocks table (first + i)) scn ≡ slice_get image.rows i

-- an image shows a row at a place
pub record IsFresh (image : Image) (place : ℕ) (row : List Value) : Type 0 where
  pub there : place < length image.rows
  pub fresh : get_or image.fresh.items place false ≡ true
  pub is : slice_get image.rows place ≡ Some row

-- the row at a place is not fresh any more
pub record IsForgotten (old new : Image) (place : ℕ) : Type 0 where
  pub scn_is : new.scn ≡ old.scn
  pub rows_are : new.rows ≡ old.rows
  pub within : (i : ℕ) → get_or new.fresh.items i false ≡ true → get_or old.fresh.items i false ≡ true
  pub gone : get_or new.fresh.items place false ≡ false
