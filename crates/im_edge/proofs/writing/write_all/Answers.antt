use Rattle.std.proofs.Common.{arith, length-drop}
use Rattle.std.proofs.lemmas.List.{length-take}
use Rattle.im_edge.proofs.ForCallers.{Took-more}
use Rattle.im_edge.proofs.writing.write_all.Goals as goal

pub loop-done-preserved : goal.loop-done-preserved
loop-done-preserved g c = record {
  within = grind (arith, length-take, length-drop);
  took = Took-more _ _ _ c.args.text.now c.loop-done.done c.in-Bytes.count c.loop-done.invariant.took c.in-Bytes.ensures.content;
  later = omega arith;
}
