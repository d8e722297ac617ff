use Rattle.std.proofs.Common.{◌≡◌, Some, None, sym, ap, ◌∙◌}
use Rattle.std.specs.Option.{option_copied_mut}
use Rattle.im_tables.specs.Table.{found_at}
use Rattle.im_tables.proofs.ForCallers.{HasCell-found}
use Rattle.im_directory.specs.Steps.{slot_noted, slots_with}
use Rattle.im_directory.proofs.ListedLemmas.{AreListed-one, slot_noted-bytes}
use Rattle.im_directory.proofs.SlotLemmas.{slot_at-found, slots_with-found, slots_with-none}
use Rattle.im_directory.proofs.shelves.Shelves.note.Goals as goal

pub note-requires : goal.note-requires
note-requires g c =
    let found : found_at c.self.inside.slots c.args.table c.args.extent ≡ Some _ = sym c.get_mut.ensures.value ∙ ap option_copied_mut c.in-Some.is in
    rw (slot_at-found c.self.inside.slots c.args.table c.args.extent _ found, c.self.view_is) c.requires

pub put-requires : goal.put-requires
put-requires g c =
    let found : found_at c.self.inside.slots c.args.table c.args.extent ≡ Some _ = sym c.get_mut.ensures.value ∙ ap option_copied_mut c.in-Some.is in
    c.self.invariant.room c.args.table c.args.extent (HasCell-found c.self.inside.slots c.args.table c.args.extent _ found)

pub invariant_of-self : goal.invariant_of-self
invariant_of-self g c =
    let found : found_at c.self.inside.slots c.args.table c.args.extent ≡ Some _ = sym c.get_mut.ensures.value ∙ ap option_copied_mut c.in-Some.is in
    AreListed-one g.U.UnitLike.content (slot_noted (c.args.row, c.args.scn)) _ _ _ _ c.args.table c.args.extent _ _ _
    (HasCell-found c.self.inside.slots c.args.table c.args.extent _ found) (slot_at-found c.self.inside.slots c.args.table c.args.extent _ found)
    c.note.ensures c.marks-marks.ensures c.put.ensures (slot_noted-bytes g.U.UnitLike.content (c.args.row, c.args.scn)) c.self.invariant

pub returns-in-Some : goal.returns-in-Some
returns-in-Some g c =
    let found : found_at c.self.inside.slots c.args.table c.args.extent ≡ Some _ = sym c.get_mut.ensures.value ∙ ap option_copied_mut c.in-Some.is in
    slots_with-found (slot_noted (c.args.row, c.args.scn)) c.self.inside.slots c.args.table c.args.extent _ _ found c.note.ensures
    ∙ ap (slots_with (slot_noted (c.args.row, c.args.scn)) c.args.table c.args.extent) c.self.view_is

pub returns-in_default : goal.returns-in_default
returns-in_default g c =
    let none : found_at c.self.inside.slots c.args.table c.args.extent ≡ None = sym c.get_mut.ensures.value ∙ ap option_copied_mut c.in_default.is in
    slots_with-none (slot_noted (c.args.row, c.args.scn)) c.self.inside.slots c.args.table c.args.extent none
    ∙ ap (slots_with (slot_noted (c.args.row, c.args.scn)) c.args.table c.args.extent) c.self.view_is
