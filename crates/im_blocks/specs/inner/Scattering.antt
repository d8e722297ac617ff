-- Rows at row numbers of their own that are gathered behind what was read before.
use Rattle.std.specs.Prelude.{◌≡◌, ℕ, ◌*◌, List, [], ◌++◌, length, Option}
use Rattle.im_values.specs.Stretches.{cut}
use Rattle.im_values.specs.declared.content.Content.{Content as Value}
use Rattle.im_history.specs.Fetched.{each_at}
use Rattle.im_blocks.specs.declared.scattered.Scattered.{Scattered}

-- all that was read
abbrev pub scattered : Scattered → List (ℕ × Option (List Value))
scattered s = s.fetched ++ each_at s.rids.items (cut (length s.rids.items) s.width s.values.items)

-- the values are those of a row for each row number
abbrev pub AreWhole : Scattered → Type 0
AreWhole s = length s.values.items ≡ length s.rids.items * s.width

-- these row numbers were read behind the others
pub record Scatters (old new : Scattered) (more : List (ℕ × Option (List Value))) : Type 0 where
  pub rows : scattered new ≡ scattered old ++ more
  pub whole : AreWhole new

-- no row is gathered any more
pub record IsEmptied (old new : Scattered) : Type 0 where
  pub fetched_is : new.fetched ≡ scattered old
  pub none : new.rids.items ≡ []
  pub empty : new.values.items ≡ []

-- the same was read, and a row of so many values can be gathered
pub record IsWide (old new : Scattered) (width : ℕ) : Type 0 where
  pub rows : scattered new ≡ scattered old
  pub whole : AreWhole new
  pub width_is : new.width ≡ width
