-- Where a table got its last column while a line was played.
use Rattle.std.specs.Prelude.{◌≡◌, ℕ, ◌≤◌, Bool, false, slice_get, Some}
use Rattle.im_values.specs.declared.content.Content.{Content as Value}
use Rattle.im_values.specs.declared.schema.Column.{Column}
use Rattle.im_history.specs.declared.entry.Entry.{Entry}
use Rattle.im_history.specs.declared.entry.What.TheVariants.{Add}
use Rattle.im_history.specs.History.{History}
use Rattle.im_history.specs.Tables.{last_added}

-- the last column that a table had got at a history was added at this place, by none of these numbers and behind so many entries
pub record GotColumn (mine : ℕ → Bool) (known table place : ℕ) (at : History) : Type 0 where
  pub last : place ≡ last_added at table
  pub behind : known ≤ place
  pub entry : Entry
  pub is : slice_get at place ≡ Some entry
  pub column : Column
  pub default : Value
  pub adds : entry.what ≡ Add table column default
  pub others : mine entry.who ≡ false
