use Rattle.im_scan.proofs.LeftLemmas.{between-more, between-none}
use Rattle.im_scan.proofs.left.are_between.Goals as goal

pub loop-rid-preserved : goal.loop-rid-preserved
loop-rid-preserved c rest =
    c.loop-rid.invariant
    (between-more c.loop-rid.low c.args.end c.loop-rid.rid-index c.args.rows.now c.loop-rid-item.result c.loop-rid-test.true c.loop-rid-item.is
    c.if-rid-low.false c.if-rid-end.false rest)

pub returns : goal.returns
returns c = c.loop-rid.invariant (between-none c.loop-rid.low c.args.end c.loop-rid.rid-index c.args.rows.now c.loop-rid-test.false)
