-- Rows that are gathered behind what was read before.
use Rattle.std.specs.Prelude.{◌≡◌, ℕ, ◌+◌, ◌*◌, ◌^◌, ◌≤◌, List, [], ◌++◌, length, Option}
use Rattle.im_values.specs.Stretches.{cut}
use Rattle.im_values.specs.declared.content.Content.{Content as Value}
use Rattle.im_history.specs.Fetched.{run_from}
use Rattle.im_blocks.specs.declared.gathered.Gathered.{Gathered}

-- all that was read
abbrev pub gathered : Gathered → List (ℕ × Option (List Value))
gathered g = g.fetched ++ run_from g.first (cut g.count g.width g.values.items)

-- the values are those of so many rows, at row numbers of 64 bits
pub record IsWhole (g : Gathered) : Type 0 where
  pub long : length g.values.items ≡ g.count * g.width
  pub small : g.first + g.count ≤ 2 ^ 63

-- these row numbers were read behind the others
pub record Gathers (old new : Gathered) (more : List (ℕ × Option (List Value))) : Type 0 where
  pub rows : gathered new ≡ gathered old ++ more
  pub whole : IsWhole new

-- no row is gathered any more
pub record IsFlushed (old new : Gathered) : Type 0 where
  pub fetched_is : new.fetched ≡ gathered old
  pub first_is : new.first ≡ old.first
  pub none : new.count ≡ 0
  pub empty : new.values.items ≡ []

-- the same was read, and a row of so many values can be gathered at this row number
pub record IsReadyAt (old new : Gathered) (rid width : ℕ) : Type 0 where
  pub rows : gathered new ≡ gathered old
  pub whole : IsWhole new
  pub at : new.first + new.count ≡ rid
  pub width_is : new.width ≡ width
