use Rattle.std.proofs.Common.{arith, ◌∙◌}
use Rattle.im_unit.proofs.BuildLemmas.{values-more}
use Rattle.im_unit.proofs.rebuilding.values_fresh.Goals as goal

pub loop-i-preserved : goal.loop-i-preserved
loop-i-preserved c = record {
  lends = values-more c.args.fresh.now c.loop-i.i c.args.column c.index-fresh-i.result c.at.result c.loop-i.values.items c.push_reserved.new.self.items
      c.loop-i-test.true c.index-fresh-i.is c.at.ensures c.loop-i.invariant.lends c.push_reserved.ensures.items;
  long = omega (arith, c.push_reserved.ensures.len, c.loop-i.invariant.long);
  room = c.push_reserved.ensures.capacity ∙ c.loop-i.invariant.room;
}
