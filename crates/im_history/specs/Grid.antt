-- How the row numbers of a table are cut into blocks and extents.
use Rattle.std.specs.Prelude.{ℕ, ◌+◌, ◌-◌, ◌*◌, ◌/◌, ◌≤◌}
use Rattle.im_values.specs.declared.limits.TheConstants.{MOST_IN_SHAPE}

-- so many row numbers a block, and so many blocks an extent
pub record Grid : Type 0 where
  pub block : ℕ
  pub extent : ℕ

-- from 1 to the most that a shape may have
pub record IsInRange (n : ℕ) : Type 0 where
  pub some : 1 ≤ n
  pub few : n ≤ MOST_IN_SHAPE

-- the shape of a table that names none
abbrev pub default_grid : Grid
default_grid = record { block = 32; extent = 64 }

-- row numbers in an extent
abbrev pub per_extent : Grid → ℕ
per_extent grid = grid.block * grid.extent

-- how many extents so many row numbers fill, the last one in part perhaps
abbrev pub extents_for : ℕ → ℕ → ℕ
extents_for rows per = (rows + per - 1) / per
