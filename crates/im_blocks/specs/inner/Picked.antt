-- Rows at row numbers of their own of which most are picked of the rows of an image.
use Rattle.std.specs.Prelude.{◌≡◌, ℕ, ◌+◌, ◌*◌, ◌<◌, List, [], ◌++◌, All, length, Option}
use Rattle.im_values.specs.Runs.{picked}
use Rattle.im_values.specs.Stretches.{cut}
use Rattle.im_values.specs.declared.content.Content.{Content as Value}
use Rattle.im_history.specs.Fetched.{each_at}
use Rattle.im_blocks.specs.declared.picking.Picking.{Picking}

-- the rows of the image and the others
abbrev pub rows_of : Picking → List (List Value) → List (List Value)
rows_of p shown = shown ++ cut p.more p.width p.values.items

-- all that was read
abbrev pub read_of : Picking → List (List Value) → List (ℕ × Option (List Value))
read_of p shown = p.fetched ++ each_at p.rids.items (picked (rows_of p shown) p.places.items)

-- each row number has a place, at which there is a row
pub record ArePicked (p : Picking) (shown : List (List Value)) : Type 0 where
  pub long : length p.values.items ≡ p.more * p.width
  pub places : All (λ place. place < length shown + p.more) p.places.items
  pub each : length p.rids.items ≡ length p.places.items

-- these row numbers were read behind the others
pub record Picks (old new : Picking) (shown : List (List Value)) (more : List (ℕ × Option (List Value))) : Type 0 where
  pub rows : read_of new shown ≡ read_of old shown ++ more
  pub whole : ArePicked new shown

-- no row is picked any more
pub record HasGone (old new : Picking) (shown : List (List Value)) : Type 0 where
  pub fetched_is : new.fetched ≡ read_of old shown
  pub rids_none : new.rids.items ≡ []
  pub places_none : new.places.items ≡ []
  pub whole : ArePicked new shown
