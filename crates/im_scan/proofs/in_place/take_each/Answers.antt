use Rattle.std.proofs.Common.{◌<◌, subst}
use Rattle.im_scan.proofs.PieceLemmas.{few-run, run-more}
use Rattle.im_scan.proofs.in_place.take_each.Goals as goal

pub take_at-requires-clause-few : goal.take_at-requires-clause-few
take_at-requires-clause-few c =
    few-run c.args.asking.now c.args.first c.loop-at.at c.args.rows.now c.args.part.now c.loop-at.part c.requires.few
    (subst (λ n. c.loop-at.at < n) c.len-at-end.ensures c.loop-at-test.true) c.loop-at.invariant

pub loop-at-preserved : goal.loop-at-preserved
loop-at-preserved c =
    run-more c.args.asking.now c.args.first c.loop-at.at c.args.rows.now c.args.part.now c.loop-at.part c.take_at.new.part c.loop-at.invariant
    c.in_ok-take_at.ensures
