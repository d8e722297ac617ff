use Rattle.std.proofs.Common.{List, sym, ap, ◌∙◌}
use Rattle.im_versions.specs.declared.version.Version.{Version}
use Rattle.im_versions.specs.Versions.{row_at}
use Rattle.im_blocks.specs.declared.slot.Slot.TheVariants.{Empty}
use Rattle.im_blocks.proofs.StoreLemmas.{in_slot, in_run, in_chain}
use Rattle.im_blocks.proofs.version_table.VersionTable.at.Goals as goal

pub returns-in-Empty-clause-row : goal.returns-in-Empty-clause-row
returns-in-Empty-clause-row g c =
    ap (λ (vs : List Version). row_at vs c.args.scn) (in_slot c.args.self.now c.args.table c.args.rid Empty (sym c.slot.ensures ∙ c.in-Empty.is))

pub returns-in-InRun-clause-row : goal.returns-in-InRun-clause-row
returns-in-InRun-clause-row g c =
    c.values_at.ensures
    ∙ ap (λ (vs : List Version). row_at vs c.args.scn)
    (in_run c.args.self.now c.args.table c.args.rid c.in-InRun.number _ (sym c.slot.ensures ∙ c.in-InRun.is) c.run.ensures)

pub returns-in-InChain-clause-row : goal.returns-in-InChain-clause-row
returns-in-InChain-clause-row g c =
    c.values_at-in-InChain.ensures.row
    ∙ ap (λ (vs : List Version). row_at vs c.args.scn)
    (in_chain c.args.self.now c.args.table c.args.rid c.in-InChain.number _ (sym c.slot.ensures ∙ c.in-InChain.is) c.touched.ensures)
