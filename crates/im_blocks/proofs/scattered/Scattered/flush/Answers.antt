use Rattle.std.proofs.Common.{ap, sym, length, ◌∙◌}
use Rattle.im_blocks.proofs.GatherLemmas.{length-cut}
use Rattle.im_blocks.proofs.scattered.Scattered.flush.Goals as goal

pub push_each-requires : goal.push_each-requires
push_each-requires c =
    sym c.replace-rids.result.ok.0
    ∙ sym (ap length c.in_ok-rows.ensures ∙ (length-cut c.len-2.result c.args.self.now.width c.replace-values.result.items ∙ c.len-2.ensures))
