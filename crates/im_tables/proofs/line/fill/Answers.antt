use Rattle.im_tables.proofs.FillLemmas.{with_range-step}
use Rattle.im_tables.proofs.line.fill.Goals as goal

pub loop-at-preserved : goal.loop-at-preserved
loop-at-preserved g c =
    with_range-step c.args.elements.now c.loop-at.elements c.args.first c.loop-at.at c.args.element c.loop-at.auto.at c.loop-at.invariant
