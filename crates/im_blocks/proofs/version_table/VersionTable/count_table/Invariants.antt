use Rattle.std.proofs.Common.{◌≡◌, ◌+◌, ◌-◌, ◌≤◌, ◌^◌, min}
use Rattle.im_blocks.specs.Standing.{standing_among}
use Rattle.im_blocks.proofs.version_table.VersionTable.count_table.Given as goal

-- the row numbers before this one are counted
abbrev pub invariant-loop-rid : goal.invariant-loop-rid
invariant-loop-rid l = record {
  upto : l.rid ≤ l.end;
  are : l.count ≡ min (l.before + standing_among l.self l.table 0 l.rid) (2 ^ 64 - 1);
}

abbrev pub decreases-loop-rid : goal.decreases-loop-rid
decreases-loop-rid l = l.end - l.rid
