use Rattle.im_scan.proofs.RunLemmas.{run-goes, run-room}
use Rattle.im_scan.proofs.in_place.take_kept.Goals as goal

pub take_together-requires-clause-few : goal.take_together-requires-clause-few
take_together-requires-clause-few c =
    run-room c.args.asking.now c.args.first c.args.rows.now c.args.mask.now c.count.result c.in-Some.sums.items c.args.part.now c.requires.few
    (c.in_ok-sums.ensures c.in-Some.sums c.in-Some.is) c.count.ensures

pub returns-in-Some : goal.returns-in-Some
returns-in-Some c =
    run-goes c.args.asking.now c.args.first c.args.rows.now c.args.mask.now c.count.result c.in-Some.sums.items c.args.part.now c.take_together.new.self
    (c.in_ok-sums.ensures c.in-Some.sums c.in-Some.is) c.count.ensures c.take_together.ensures
