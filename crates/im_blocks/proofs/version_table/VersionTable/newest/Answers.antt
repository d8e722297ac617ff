use Rattle.std.proofs.Common.{sym, ap, ◌∙◌}
use Rattle.im_versions.specs.Versions.{newest_row}
use Rattle.im_blocks.specs.declared.slot.Slot.TheVariants.{Empty}
use Rattle.im_blocks.proofs.StoreLemmas.{in_slot, in_run, in_chain}
use Rattle.im_blocks.proofs.version_table.VersionTable.newest.Goals as goal

pub returns-in-Empty : goal.returns-in-Empty
returns-in-Empty c = ap newest_row (in_slot c.args.self.now c.args.table c.args.rid Empty (sym c.slot.ensures ∙ c.in-Empty.is))

pub returns-in-InRun : goal.returns-in-InRun
returns-in-InRun c =
    c.newest_values.ensures
    ∙ ap newest_row (in_run c.args.self.now c.args.table c.args.rid c.in-InRun.number _ (sym c.slot.ensures ∙ c.in-InRun.is) c.run.ensures)

pub returns-in-InChain : goal.returns-in-InChain
returns-in-InChain c =
    c.newest_values-in-InChain.ensures
    ∙ ap newest_row (in_chain c.args.self.now c.args.table c.args.rid c.in-InChain.number _ (sym c.slot.ensures ∙ c.in-InChain.is) c.touched.ensures)
