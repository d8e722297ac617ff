use Rattle.std.proofs.Common.{take}
use Rattle.im_history.specs.Puts.{all_changes}
use Rattle.im_directory.specs.Steps.{IsRange, WentThrough, slot_uncounted}
use Rattle.im_directory.proofs.shelves.Shelves.uncount_all.Given as goal

-- no note is counted of the extents of the writes so far
abbrev pub invariant-loop-changes : goal.invariant-loop-changes
invariant-loop-changes g l = record {
  range : IsRange l.tables l.range;
  went : WentThrough (λ change. slot_uncounted) l.fn.self l.self l.tables (all_changes (take l.changes-index l.writes));
}
