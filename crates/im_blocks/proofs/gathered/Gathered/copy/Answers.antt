use Rattle.im_blocks.proofs.GatherLemmas.{Gathers-next}
use Rattle.im_blocks.proofs.gathered.Gathered.copy.Goals as goal

pub loop-at-preserved : goal.loop-at-preserved
loop-at-preserved c = record {
  read = Gathers-next c.args.self.now c.loop-at.self c.push_row.new.self c.args.rid c.args.from c.loop-at.at c.args.rows.now c.values.result.now
      c.values.ensures c.loop-at.invariant.read c.in_ok-push_row.ensures;
}
