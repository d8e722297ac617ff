-- The extents of all tables.
use Rattle.std.specs.Prelude.{◌≡◌, ℕ, ◌<◌, ◌≤◌, List, length, map, flat_map, Some}
use Rattle.std.specs.List.{range_with_len}
use Rattle.im_history.specs.Grid.{extents_for}
use Rattle.im_history.specs.History.{History}
use Rattle.im_history.specs.Tables.{tables, given}
use Rattle.im_history.specs.Units.{unit}
use Rattle.im_history.specs.Views.{per_at}

-- an extent of a table
pub record Extent : Type 0 where
  pub table : ℕ
  pub number : ℕ

-- how many extents a table has: those that hold a row number given so far
abbrev pub extents_of : History → ℕ → ℕ
extents_of history table = extents_for (given history table) (per_at history table)

-- the extents of a table, in order
abbrev pub table_extents : History → ℕ → List Extent
table_extents history table = map (λ number. record { table = table; number = number }) (range_with_len 0 (extents_of history table))

-- the extents of all tables, by table and then by number
unfoldable pub all_extents : History → List Extent
all_extents history = flat_map (table_extents history) (range_with_len 1 (length (tables history)))

-- a table has an extent of this number
pub record IsExtent (history : History) (table extent : ℕ) : Type 0 where
  pub first : 1 ≤ table
  pub last : table ≤ length (tables history)
  pub within : extent < extents_of history table

-- units are of extents alone
pub record AreOfExtents (history : History) : Type 0 where
  pub each : (table extent unit_scn : ℕ) → unit history table extent ≡ Some unit_scn → IsExtent history table extent
