use Rattle.std.proofs.Common.{◌≡◌, ◌+◌, ◌≤◌, take}
use Rattle.im_blocks.specs.Chains.{rows_among}
use Rattle.im_blocks.specs.inner.Scattering.{AreWhole, scattered}
use Rattle.im_blocks.proofs.blocks.Blocks.copied_rows.Given as goal

-- the row numbers before this one are done
abbrev pub invariant-loop-rid : goal.invariant-loop-rid
invariant-loop-rid g l = record {
  rows : scattered l.read ≡ rows_among l.self l.table (take l.rid-index l.rids) l.scn;
  whole : AreWhole l.read;
  few : l.steps ≤ l.fn.steps + l.rid-index;
}
