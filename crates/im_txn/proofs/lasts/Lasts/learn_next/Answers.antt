use Rattle.std.proofs.Common.{◌∙◌, arith}
use Rattle.im_txn.proofs.LastsLemmas.{AreLasts-put}
use Rattle.im_txn.proofs.lasts.Lasts.learn_next.Goals as goal

pub loop-self-preserved : goal.loop-self-preserved
loop-self-preserved c = record {
  known = c.put.ensures.known ∙ c.loop-self.invariant.known;
  lasts =
      AreLasts-put c.args.self.now.known c.loop-self.self.known c.loop-self.self.part c.put.new.self.known c.put.new.self.part c.loop-self.self.tables.items
      c.put.new.self.tables.items c.args.pending.now c.index-pending-self.result c.loop-self.invariant.known c.put.ensures.known c.put.ensures.part
      c.loop-self.invariant.lasts c.requires.next c.index-pending-self.is (omega arith) c.in_ok-put.ensures.ok;
}
