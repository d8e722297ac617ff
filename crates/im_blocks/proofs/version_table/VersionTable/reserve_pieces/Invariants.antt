use Rattle.std.proofs.Common.{[], take}
use Rattle.im_history.specs.Puts.{all_changes}
use Rattle.im_blocks.specs.Transitions.{SameVersions}
use Rattle.im_blocks.specs.inner.Readying.{AreReady}
use Rattle.im_blocks.proofs.version_table.VersionTable.reserve_pieces.Given as goal

-- the changes of the pieces so far are ready
abbrev pub invariant-loop-piece : goal.invariant-loop-piece
invariant-loop-piece l = record {
  same : SameVersions l.fn.self l.self;
  ready : AreReady l.self [] l.ready.items (all_changes (take l.piece-index l.pieces));
}
