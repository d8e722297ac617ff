use Rattle.std.proofs.Common.{List, Option, ap, ◌∙◌}
use Rattle.std.specs.Option.{unwrap_or}
use Rattle.im_tables.proofs.ForCallers.{unwrap_or-found_at}
use Rattle.im_directory.specs.Slots.{Slot, nothing, slot_at}
use Rattle.im_directory.proofs.shelves.Shelves.slot.Goals as goal

pub returns : goal.returns
returns g c =
    ap (λ (found : Option (Slot g.row.U.Denot)). unwrap_or found nothing) c.get.ensures
    ∙ (unwrap_or-found_at nothing c.self.inside.slots c.args.table c.args.extent
    ∙ ap (λ (slots : List (List (Slot g.row.U.Denot))). slot_at slots c.args.table c.args.extent) c.self.view_is)
