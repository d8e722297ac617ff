use Rattle.im_directory.specs.Steps.{slot_uncounted}
use Rattle.im_directory.proofs.WritesLemmas.{WentThrough-write, WentThrough-writes}
use Rattle.im_directory.proofs.shelves.Shelves.uncount_all.Goals as goal

pub loop-changes-preserved : goal.loop-changes-preserved
loop-changes-preserved g c = record {
  range = c.uncount_each.ensures.range;
  went =
      WentThrough-write (λ change. slot_uncounted) _ _ _ c.args.tables.now c.args.writes.now c.loop-changes.changes-index c.changes-item.result
      c.loop-changes-test.true c.changes-item.is c.loop-changes.invariant.went c.uncount_each.ensures.went;
}

pub returns : goal.returns
returns g c =
    WentThrough-writes (λ change. slot_uncounted) _ _ c.args.tables.now c.args.writes.now c.loop-changes.changes-index
    c.loop-changes-test.false c.loop-changes.invariant.went
