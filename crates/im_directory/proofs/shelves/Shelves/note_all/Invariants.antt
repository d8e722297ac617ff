use Rattle.std.proofs.Common.{drop, take}
use Rattle.im_history.specs.Puts.{all_changes}
use Rattle.im_directory.specs.Steps.{AreBefore, HasNotesRoom, IsRange, WentThrough, slot_noted}
use Rattle.im_directory.proofs.shelves.Shelves.note_all.Given as goal

-- the changes of the writes so far are noted, and there is room for those of the others
abbrev pub invariant-loop-changes : goal.invariant-loop-changes
invariant-loop-changes g l = record {
  range : IsRange l.tables l.range;
  went : WentThrough (λ change. slot_noted (change.rid, l.scn)) l.fn.self l.self l.tables (all_changes (take l.changes-index l.writes));
  room : HasNotesRoom l.self l.tables (all_changes (drop l.changes-index l.writes));
  later : AreBefore l.self l.scn;
}
