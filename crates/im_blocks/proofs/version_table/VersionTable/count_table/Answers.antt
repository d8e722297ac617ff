use Rattle.std.proofs.Common.{◌-◌, ◌^◌}
use Rattle.im_blocks.proofs.StandingLemmas.{counted-next}
use Rattle.im_blocks.proofs.version_table.VersionTable.count_table.Goals as goal

pub loop-rid-preserved : goal.loop-rid-preserved
loop-rid-preserved c =
    let counted = c.count_from-counted.ensures in
    record {
      upto = counted.upto;
      are = counted-next c.args.self.now c.args.table c.loop-rid.rid c.count-end.result c.count_from-counted.result.next c.count_from-counted.result.versions
          c.args.before c.loop-rid.count c.saturating_add-count.result (2 ^ 64 - 1) c.loop-rid.invariant.are counted c.saturating_add-count.ensures;
    }
