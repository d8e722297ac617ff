-- How many versions stand.
use Rattle.std.specs.Prelude.{ℕ, length, sum_by}
use Rattle.std.specs.List.{range_with_len}
use Rattle.im_tables.specs.Table.{row_of}
use Rattle.im_blocks.specs.Chains.{AllVersions, versions_at}

-- how many of a row number of a table
abbrev pub standing_at : AllVersions → ℕ → ℕ → ℕ
standing_at blocks table rid = length (versions_at blocks table rid)

-- how many of so many row numbers of a table from the first on
abbrev pub standing_among : AllVersions → ℕ → ℕ → ℕ → ℕ
standing_among blocks table first count = sum_by (standing_at blocks table) (range_with_len first count)

-- how many of all that have a slot
abbrev pub standing_of : AllVersions → ℕ → ℕ
standing_of blocks table = standing_among blocks table 0 (length (row_of blocks.slots table))

-- how many of all tables
unfoldable pub standing : AllVersions → ℕ
standing blocks = sum_by (standing_of blocks) (range_with_len 0 (length blocks.slots))
