-- A stored history as contracts see it.
use Rattle.std.specs.Prelude.{ℕ, List}
use Rattle.im_history.specs.declared.entry.Entry.{Entry}

-- its entries, and how many more can be added without memory
pub record Stored : Type 0 where
  pub entries : List Entry
  pub spare : ℕ
