use Rattle.std.proofs.Common.{sym, ap, ◌∙◌}
use Rattle.im_versions.specs.Versions.{Versions}
use Rattle.im_blocks.specs.declared.slot.Slot.TheVariants.{Empty}
use Rattle.im_blocks.proofs.StoreLemmas.{in_slot, in_run}
use Rattle.im_blocks.proofs.version_table.VersionTable.make_ready.Goals as goal

pub put_chain-requires-clause-chain : goal.put_chain-requires-clause-chain
put_chain-requires-clause-chain c =
    ap (λ (chain : Versions). chain.versions) c.new.ensures
    ∙ in_slot c.args.self.now c.args.table c.args.rid Empty (sym c.slot.ensures ∙ c.in-Empty-2.is)

pub put_chain-requires-in-InRun-clause-chain : goal.put_chain-requires-in-InRun-clause-chain
put_chain-requires-in-InRun-clause-chain c =
    c.in_ok-chain-in-InRun.ensures
    ∙ in_run c.args.self.now c.args.table c.args.rid c.in-InRun.number _ (sym c.slot.ensures ∙ c.in-InRun.is) c.run.ensures
