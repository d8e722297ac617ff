use Rattle.std.proofs.Common.{take}
use Rattle.im_directory.specs.Steps.{IsRange, TellsAlike, WentThrough, slot_counted}
use Rattle.im_directory.proofs.shelves.Shelves.count_each.Given as goal

-- the changes so far are counted, and there is room for their notes
abbrev pub invariant-loop-place : goal.invariant-loop-place
invariant-loop-place g l = record {
  range : IsRange l.tables l.range;
  same : TellsAlike l.fn.self l.self;
  counted : WentThrough (λ change. slot_counted) l.fn.self l.self l.tables (take l.place l.changes);
}
