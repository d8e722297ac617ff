use Rattle.std.proofs.Common.{ℕ, ◌-◌, ◌^◌, ap, min, ◌∙◌}
use Rattle.im_blocks.proofs.StandingLemmas.{standing-next, standing-upto}
use Rattle.im_blocks.proofs.version_table.VersionTable.versions.Goals as goal

pub loop-table-preserved : goal.loop-table-preserved
loop-table-preserved c =
    standing-next c.args.self.now c.loop-table.table c.loop-table.count c.count_table-count.result (2 ^ 64 - 1) c.loop-table.invariant c.count_table-count.ensures

pub returns : goal.returns
returns c =
    c.loop-table.invariant
    ∙ ap (λ (n : ℕ). min n (2 ^ 64 - 1))
    (standing-upto c.args.self.now c.tables_end-table-end.result c.loop-table.table c.tables_end-table-end.ensures.past c.loop-table-test.false)
