use Rattle.std.proofs.Common.{◌≡◌, ◌+◌, ◌-◌, ◌≤◌}
use Rattle.im_blocks.specs.Chains.{rows_at}
use Rattle.im_blocks.specs.inner.Gathering.{IsWhole, gathered}
use Rattle.im_blocks.proofs.blocks.Blocks.extent_rows.Given as goal

-- the row numbers before this one are read
abbrev pub invariant-loop-rid : goal.invariant-loop-rid
invariant-loop-rid g l = record {
  from : l.first ≤ l.rid;
  upto : l.rid ≤ l.first + l.count;
  rows : gathered l.read ≡ rows_at l.self l.table l.first (l.rid - l.first) l.scn;
  whole : IsWhole l.read;
  few : l.steps + l.first ≤ l.fn.steps + l.rid;
}

abbrev pub decreases-loop-rid : goal.decreases-loop-rid
decreases-loop-rid g l = l.first + l.count - l.rid
