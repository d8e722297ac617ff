use Rattle.std.proofs.Common.{take}
use Rattle.im_blocks.specs.Transitions.{SameVersions}
use Rattle.im_blocks.specs.inner.Readying.{AreReady}
use Rattle.im_blocks.proofs.version_table.VersionTable.reserve_each.Given as goal

-- the changes so far are ready
abbrev pub invariant-loop-place : goal.invariant-loop-place
invariant-loop-place l = record {
  same : SameVersions l.fn.self l.self;
  ready : AreReady l.self l.fn.ready.items l.ready.items (take l.place l.piece);
}
