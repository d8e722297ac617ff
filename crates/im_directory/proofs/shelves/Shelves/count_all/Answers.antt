use Rattle.im_directory.specs.Steps.{slot_counted}
use Rattle.im_directory.proofs.NotingLemmas.{TellsAlike-trans}
use Rattle.im_directory.proofs.WritesLemmas.{WentThrough-write, WentThrough-writes}
use Rattle.im_directory.proofs.shelves.Shelves.count_all.Goals as goal

pub loop-changes-preserved : goal.loop-changes-preserved
loop-changes-preserved g c = record {
  range = c.count_each.ensures.range;
  same = TellsAlike-trans _ _ _ c.loop-changes.invariant.same c.count_each.ensures.same;
  counted =
      WentThrough-write (λ change. slot_counted) _ _ _ c.args.tables.now c.args.writes.now c.loop-changes.changes-index c.changes-item.result
      c.loop-changes-test.true c.changes-item.is c.loop-changes.invariant.counted c.in_ok-count_each.ensures.counted;
}

pub returns-in_err-count_each-clause-same : goal.returns-in_err-count_each-clause-same
returns-in_err-count_each-clause-same g c = TellsAlike-trans _ _ _ c.loop-changes.invariant.same c.count_each.ensures.same

pub returns-clause-counted : goal.returns-clause-counted
returns-clause-counted g c =
    WentThrough-writes (λ change. slot_counted) _ _ c.args.tables.now c.args.writes.now c.loop-changes.changes-index
    c.loop-changes-test.false c.loop-changes.invariant.counted
