use Rattle.std.proofs.Common.{refl, arith}
use Rattle.im_history.specs.Puts.{lent_change}
use Rattle.im_directory.specs.Steps.{slot_counted}
use Rattle.im_directory.proofs.NotingLemmas.{TellsAlike-trans}
use Rattle.im_directory.proofs.WritesLemmas.{WentThrough-found, WentThrough-skipped}
use Rattle.im_directory.proofs.shelves.Shelves.count_each.Goals as goal

pub loop-place-preserved : goal.loop-place-preserved
loop-place-preserved g c = record {
  range = c.extent_for-extent.ensures.range;
  same = TellsAlike-trans _ _ _ c.loop-place.invariant.same c.count.ensures.same;
  counted =
      WentThrough-found (λ change. slot_counted) _ _ _ c.args.tables.now c.args.changes.now c.loop-place.place c.extent_for-extent.result
      (lent_change c.at-change.result) refl c.loop-place.invariant.counted (omega arith) c.at-change.ensures c.extent_for-extent.ensures.extent
      c.in_ok-count.ensures.counted;
}

pub returns-in_err-count-clause-same : goal.returns-in_err-count-clause-same
returns-in_err-count-clause-same g c = TellsAlike-trans _ _ _ c.loop-place.invariant.same c.count.ensures.same

pub returns-then-have_no_extents-clause-counted : goal.returns-then-have_no_extents-clause-counted
returns-then-have_no_extents-clause-counted g c =
    WentThrough-skipped (λ change. slot_counted) _ c.args.tables.now c.args.changes.now (λ change. refl)
    (c.if-have_no_extents.ensures refl)
