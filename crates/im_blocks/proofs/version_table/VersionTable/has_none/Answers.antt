use Rattle.std.proofs.Common.{◌≡◌, false, not, sym, ap, ◌∙◌}
use Rattle.std.specs.Option.{is_some, option_copied}
use Rattle.im_blocks.specs.declared.slot.Slot.TheVariants.{Empty}
use Rattle.im_blocks.specs.Chains.{run_versions}
use Rattle.im_blocks.proofs.StoreLemmas.{in_slot, in_run, in_chain, not_found}
use Rattle.im_blocks.proofs.version_table.VersionTable.has_none.Goals as goal

pub returns-in-Empty : goal.returns-in-Empty
returns-in-Empty c = λ _. sym (in_slot c.args.self.now c.args.table c.args.rid Empty (sym c.slot.ensures ∙ c.in-Empty.is))

pub returns-in-InRun : goal.returns-in-InRun
returns-in-InRun c = λ none.
    let found : is_some c.run.result ≡ false = c.is_none.ensures ∙ ap not none in
    sym (in_run c.args.self.now c.args.table c.args.rid c.in-InRun.number _ (sym c.slot.ensures ∙ c.in-InRun.is) c.run.ensures)
    ∙ ap (λ o. run_versions c.args.rid (option_copied o)) (not_found c.run.result found)

pub returns-in-InChain : goal.returns-in-InChain
returns-in-InChain c = λ none.
    sym (in_chain c.args.self.now c.args.table c.args.rid c.in-InChain.number _ (sym c.slot.ensures ∙ c.in-InChain.is) c.touched.ensures)
    ∙ c.are_empty.ensures none
