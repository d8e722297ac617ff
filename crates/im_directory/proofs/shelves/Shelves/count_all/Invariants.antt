use Rattle.std.proofs.Common.{take}
use Rattle.im_history.specs.Puts.{all_changes}
use Rattle.im_directory.specs.Steps.{IsRange, TellsAlike, WentThrough, slot_counted}
use Rattle.im_directory.proofs.shelves.Shelves.count_all.Given as goal

-- the changes of the writes so far are counted, and there is room for their notes
abbrev pub invariant-loop-changes : goal.invariant-loop-changes
invariant-loop-changes g l = record {
  range : IsRange l.tables l.range;
  same : TellsAlike l.fn.self l.self;
  counted : WentThrough (λ change. slot_counted) l.fn.self l.self l.tables (all_changes (take l.changes-index l.writes));
}
