use Rattle.std.proofs.Common.{[], refl, sym, ◌∙◌}
use Rattle.std.specs.Option.{option_copied}
use Rattle.im_blocks.specs.declared.slot.Slot.TheVariants.{Empty}
use Rattle.im_blocks.specs.Chains.{chain_versions}
use Rattle.im_blocks.proofs.StandingLemmas.{IsCounted-one}
use Rattle.im_blocks.proofs.StoreLemmas.{in_slot, in_chain}
use Rattle.im_blocks.proofs.version_table.VersionTable.count_from.Goals as goal

pub returns-in-Empty : goal.returns-in-Empty
returns-in-Empty c =
    IsCounted-one c.args.self.now c.args.table c.args.rid c.args.end 0 [] c.requires.before
    (in_slot c.args.self.now c.args.table c.args.rid Empty (sym c.slot.ensures ∙ c.in-Empty.is)) refl

pub returns-in-InChain : goal.returns-in-InChain
returns-in-InChain c =
    IsCounted-one c.args.self.now c.args.table c.args.rid c.args.end c.count.result (chain_versions (option_copied c.touched.result)) c.requires.before
    (in_chain c.args.self.now c.args.table c.args.rid c.in-InChain.number _ (sym c.slot.ensures ∙ c.in-InChain.is) c.touched.ensures) c.count.ensures
