use Rattle.std.proofs.Common.{Option, ap, sym, ◌∙◌}
use Rattle.std.specs.Option.{option_copied, unwrap_or}
use Rattle.im_tables.proofs.ForCallers.{unwrap_or-found_at}
use Rattle.im_blocks.specs.declared.slot.Slot.{Slot}
use Rattle.im_blocks.specs.declared.slot.Slot.TheVariants.{Empty}
use Rattle.im_blocks.specs.Chains.{AllVersions, slot_at}
use Rattle.im_blocks.proofs.version_table.VersionTable.slot.Goals as goal

pub returns-in-Some : goal.returns-in-Some
returns-in-Some c =
    c.slot.ensures
    ∙ (ap (λ (found : Option Slot). unwrap_or found Empty) (sym (ap option_copied c.in-Some.is) ∙ c.get.ensures)
    ∙ (unwrap_or-found_at Empty c.self.inside.slots c.args.table c.args.rid ∙ ap (λ (b : AllVersions). slot_at b c.args.table c.args.rid) c.self.view_is))

pub returns-in-None : goal.returns-in-None
returns-in-None c =
    ap (λ (found : Option Slot). unwrap_or found Empty) (sym (ap option_copied c.in-None.is) ∙ c.get.ensures)
    ∙ (unwrap_or-found_at Empty c.self.inside.slots c.args.table c.args.rid ∙ ap (λ (b : AllVersions). slot_at b c.args.table c.args.rid) c.self.view_is)
