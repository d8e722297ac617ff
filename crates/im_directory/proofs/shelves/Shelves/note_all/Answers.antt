use Rattle.im_directory.specs.Steps.{slot_noted}
use Rattle.im_directory.proofs.NotingLemmas.{AreNoted-all}
use Rattle.im_directory.proofs.WritesLemmas.{AreBefore-left, HasNotesRoom-first, HasNotesRoom-left, WentThrough-write, WentThrough-writes, all-left}
use Rattle.im_directory.proofs.shelves.Shelves.note_all.Goals as goal

pub note_each-requires-clause-room : goal.note_each-requires-clause-room
note_each-requires-clause-room g c =
    HasNotesRoom-first _ c.args.tables.now _ c.changes-item.result _
    (all-left c.args.writes.now c.loop-changes.changes-index c.changes-item.result c.loop-changes-test.true c.changes-item.is)
    c.loop-changes.invariant.room

pub loop-changes-preserved : goal.loop-changes-preserved
loop-changes-preserved g c = record {
  range = c.note_each.ensures.range;
  went =
      WentThrough-write (λ change. slot_noted (change.rid, c.args.scn)) _ _ _ c.args.tables.now c.args.writes.now c.loop-changes.changes-index c.changes-item.result
      c.loop-changes-test.true c.changes-item.is c.loop-changes.invariant.went c.note_each.ensures.went;
  room =
      HasNotesRoom-left _ _ c.args.tables.now c.args.scn _ c.changes-item.result _
      (all-left c.args.writes.now c.loop-changes.changes-index c.changes-item.result c.loop-changes-test.true c.changes-item.is)
      c.loop-changes.invariant.room c.loop-changes.invariant.later c.note_each.ensures.went;
  later =
      AreBefore-left _ _ c.args.tables.now c.args.scn _ c.changes-item.result _
      (all-left c.args.writes.now c.loop-changes.changes-index c.changes-item.result c.loop-changes-test.true c.changes-item.is)
      c.loop-changes.invariant.room c.loop-changes.invariant.later c.note_each.ensures.went;
}

pub returns : goal.returns
returns g c =
    AreNoted-all _ _ c.args.tables.now c.args.scn _
    (WentThrough-writes (λ change. slot_noted (change.rid, c.args.scn)) _ _ c.args.tables.now c.args.writes.now c.loop-changes.changes-index
    c.loop-changes-test.false c.loop-changes.invariant.went)
