use Rattle.std.proofs.Common.{◌+◌, refl}
use Rattle.im_session.proofs.PinLemmas.{goes-merges, goes-next, part-from}
use Rattle.im_session.proofs.parts.with_parts.Goals as goal

pub merge-requires : goal.merge-requires
merge-requires c = record {
  few =
      goes-merges c.args.cursor.now.bound c.args.cursor.now.view c.args.first c.loop-i.i 1 c.args.pins.now c.args.before c.loop-i.before c.in-Ok.more
      c.loop-i.before c.loop-i.invariant
      (part-from c.args.cursor.now.bound c.args.cursor.now.view c.args.first c.loop-i.i c.args.pins.now c.index-pins-i.result c.loop-i-test.true
      c.index-pins-i.is c.in-Ok.more c.in-Ok.ensures)
      c.requires.asked.few c.requires.before c.requires.pins.0 c.requires.pins.1;
}

pub loop-i-preserved : goal.loop-i-preserved
loop-i-preserved c =
    goes-next c.args.cursor.now.bound c.args.cursor.now.view c.args.first c.loop-i.i 1 c.args.pins.now c.args.before c.loop-i.before c.in-Ok.more
    c.merge.new.self c.loop-i.invariant
    (part-from c.args.cursor.now.bound c.args.cursor.now.view c.args.first c.loop-i.i c.args.pins.now c.index-pins-i.result c.loop-i-test.true
    c.index-pins-i.is c.in-Ok.more c.in-Ok.ensures)
    (c.loop-i.i + 1) refl c.in-Ok-merge.ensures.merged
