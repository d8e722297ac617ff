use Rattle.std.proofs.Common.{refl, arith}
use Rattle.im_history.specs.Puts.{lent_change}
use Rattle.im_directory.specs.Steps.{slot_noted}
use Rattle.im_directory.proofs.NotingLemmas.{MayNote-next}
use Rattle.im_directory.proofs.WritesLemmas.{WentThrough-found, WentThrough-skipped, stands}
use Rattle.im_directory.proofs.shelves.Shelves.note_each.Goals as goal

pub note-requires : goal.note-requires
note-requires g c =
    let may =
    MayNote-next _ _ c.args.tables.now c.args.scn c.args.changes.now c.loop-place.place (lent_change c.at-change.result) c.requires.room c.requires.later
    c.loop-place.invariant.went (omega arith) (stands c.args.changes.now c.loop-place.place (lent_change c.at-change.result) c.at-change.ensures) in
    rw c.extent_for-extent.ensures.extent.slot may

pub loop-place-preserved : goal.loop-place-preserved
loop-place-preserved g c = record {
  range = c.extent_for-extent.ensures.range;
  went =
      WentThrough-found (λ change. slot_noted (change.rid, c.args.scn)) _ _ _ c.args.tables.now c.args.changes.now c.loop-place.place
      c.extent_for-extent.result (lent_change c.at-change.result) refl c.loop-place.invariant.went (omega arith) c.at-change.ensures
      c.extent_for-extent.ensures.extent c.note.ensures;
}

pub returns-then-have_no_extents-clause-went : goal.returns-then-have_no_extents-clause-went
returns-then-have_no_extents-clause-went g c =
    WentThrough-skipped (λ change. slot_noted (change.rid, c.args.scn)) _ c.args.tables.now c.args.changes.now (λ change. refl)
    (c.if-have_no_extents.ensures refl)
