use Rattle.std.proofs.Common.{◌≡◌, ◌-◌, ◌^◌, min, sum_by}
use Rattle.std.specs.List.{range_with_len}
use Rattle.im_blocks.specs.Standing.{standing_of}
use Rattle.im_blocks.proofs.version_table.VersionTable.versions.Given as goal

-- the tables before this one are counted
abbrev pub invariant-loop-table : goal.invariant-loop-table
invariant-loop-table l = l.count ≡ min (sum_by (standing_of l.self) (range_with_len 0 l.table)) (2 ^ 64 - 1)
