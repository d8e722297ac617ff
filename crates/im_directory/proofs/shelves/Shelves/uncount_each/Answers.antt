use Rattle.std.proofs.Common.{refl, arith}
use Rattle.im_history.specs.Puts.{lent_change}
use Rattle.im_directory.specs.Steps.{slot_uncounted}
use Rattle.im_directory.proofs.WritesLemmas.{WentThrough-found, WentThrough-skipped}
use Rattle.im_directory.proofs.shelves.Shelves.uncount_each.Goals as goal

pub loop-place-preserved : goal.loop-place-preserved
loop-place-preserved g c = record {
  range = c.extent_for-extent.ensures.range;
  went =
      WentThrough-found (λ change. slot_uncounted) _ _ _ c.args.tables.now c.args.changes.now c.loop-place.place c.extent_for-extent.result
      (lent_change c.at-change.result) refl c.loop-place.invariant.went (omega arith) c.at-change.ensures c.extent_for-extent.ensures.extent c.uncount.ensures;
}

pub returns-then-have_no_extents-clause-went : goal.returns-then-have_no_extents-clause-went
returns-then-have_no_extents-clause-went g c =
    WentThrough-skipped (λ change. slot_uncounted) _ c.args.tables.now c.args.changes.now (λ change. refl)
    (c.if-have_no_extents.ensures refl)
