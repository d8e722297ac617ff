use Rattle.std.proofs.Common.{◌≡◌, ◌+◌, ◌≤◌, take}
use Rattle.im_blocks.specs.Chains.{rows_among}
use Rattle.im_blocks.specs.inner.Picked.{ArePicked, read_of}
use Rattle.im_blocks.proofs.blocks.Blocks.rows_beside.Given as goal

-- the row numbers before this one are done
abbrev pub invariant-loop-rid : goal.invariant-loop-rid
invariant-loop-rid g l = record {
  rows : read_of l.read l.shown.image.now.rows ≡ rows_among l.self l.table (take l.rid-index l.rids) l.scn;
  whole : ArePicked l.read l.shown.image.now.rows;
  few : l.steps ≤ l.fn.steps + l.rid-index;
}
