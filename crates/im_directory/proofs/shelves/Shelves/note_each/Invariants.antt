use Rattle.std.proofs.Common.{take}
use Rattle.im_directory.specs.Steps.{IsRange, WentThrough, slot_noted}
use Rattle.im_directory.proofs.shelves.Shelves.note_each.Given as goal

-- the changes so far are noted
abbrev pub invariant-loop-place : goal.invariant-loop-place
invariant-loop-place g l = record {
  range : IsRange l.tables l.range;
  went : WentThrough (λ change. slot_noted (change.rid, l.scn)) l.fn.self l.self l.tables (take l.place l.changes);
}
