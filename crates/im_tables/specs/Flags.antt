-- The least number of a table whose flag is up, or down.
use Rattle.std.specs.Prelude.{◌≡◌, ℕ, ◌<◌, Bool, false, not, List}
use Rattle.im_tables.specs.Table.{cell_at}

-- the least number of a table whose flag is this one
pub record IsLeast (flag : Bool) (flags : List (List Bool)) (table number : ℕ) : Type 0 where
  pub is : cell_at false flags table number ≡ flag
  pub before : (other : ℕ) → other < number → cell_at false flags table other ≡ not flag

-- no flag of a table is up
pub record NoneUp (flags : List (List Bool)) (table : ℕ) : Type 0 where
  pub each : (number : ℕ) → cell_at false flags table number ≡ false
