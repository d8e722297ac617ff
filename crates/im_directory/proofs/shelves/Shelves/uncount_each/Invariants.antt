use Rattle.std.proofs.Common.{take}
use Rattle.im_directory.specs.Steps.{IsRange, WentThrough, slot_uncounted}
use Rattle.im_directory.proofs.shelves.Shelves.uncount_each.Given as goal

-- no note is counted of the extents of the changes so far
abbrev pub invariant-loop-place : goal.invariant-loop-place
invariant-loop-place g l = record {
  range : IsRange l.tables l.range;
  went : WentThrough (λ change. slot_uncounted) l.fn.self l.self l.tables (take l.place l.changes);
}
