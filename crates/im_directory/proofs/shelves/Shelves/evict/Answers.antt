use Rattle.std.proofs.Common.{◌≡◌, Some, None, refl, sym, ap, ◌∙◌, arith}
use Rattle.std.specs.Option.{option_copied_mut}
use Rattle.im_tables.specs.Table.{found_at}
use Rattle.im_tables.proofs.ForCallers.{HasCell-found}
use Rattle.im_directory.specs.Lists.{current_bytes}
use Rattle.im_directory.specs.Slots.{Slot, slot_at}
use Rattle.im_directory.specs.Steps.{slot_dropped, slots_with}
use Rattle.im_directory.proofs.ListedLemmas.{AreListed-left, used_left}
use Rattle.im_directory.proofs.SlotLemmas.{slot_at-found, slot_at-none, slots_with-found, slots_with-none}
use Rattle.im_directory.proofs.shelves.Shelves.evict.Goals as goal

pub put-requires : goal.put-requires
put-requires g c =
    let found : found_at c.self.inside.slots c.args.table c.args.extent ≡ Some _ = sym c.get_mut.ensures.value ∙ ap option_copied_mut c.in-Some.is in
    c.self.invariant.room c.args.table c.args.extent (HasCell-found c.self.inside.slots c.args.table c.args.extent _ found)

pub overflow_sub-self : goal.overflow_sub-self
overflow_sub-self g c =
    let found : found_at c.self.inside.slots c.args.table c.args.extent ≡ Some _ = sym c.get_mut.ensures.value ∙ ap option_copied_mut c.in-Some.is in
    used_left g.U.UnitLike.content c.self.inside.slots c.self.inside.lists c.self.inside.used c.args.table c.args.extent _ c.bytes_of.result
    (HasCell-found c.self.inside.slots c.args.table c.args.extent _ found) (slot_at-found c.self.inside.slots c.args.table c.args.extent _ found)
    (c.bytes_of.ensures ∙ ap (current_bytes g.U.UnitLike.content) c.evict-current.ensures.unit) c.self.invariant

pub invariant_of-self-2 : goal.invariant_of-self-2
invariant_of-self-2 g c =
    let found : found_at c.self.inside.slots c.args.table c.args.extent ≡ Some _ = sym c.get_mut.ensures.value ∙ ap option_copied_mut c.in-Some.is in
    AreListed-left g.U.UnitLike.content slot_dropped c.self.inside.slots c.self.inside.lists _ c.self.inside.used 0 _ c.args.table c.args.extent _ _ _
    c.bytes_of.result (HasCell-found c.self.inside.slots c.args.table c.args.extent _ found)
    (slot_at-found c.self.inside.slots c.args.table c.args.extent _ found) c.evict-current.ensures.slot c.marks.ensures c.put.ensures
    (c.bytes_of.ensures ∙ ap (current_bytes g.U.UnitLike.content) c.evict-current.ensures.unit) refl (omega arith)
    c.self.invariant

pub returns-clause-slot : goal.returns-clause-slot
returns-clause-slot g c =
    let found : found_at c.self.inside.slots c.args.table c.args.extent ≡ Some _ = sym c.get_mut.ensures.value ∙ ap option_copied_mut c.in-Some.is in
    slots_with-found slot_dropped c.self.inside.slots c.args.table c.args.extent _ _ found c.evict-current.ensures.slot
    ∙ ap (slots_with slot_dropped c.args.table c.args.extent) c.self.view_is

pub returns-clause-unit : goal.returns-clause-unit
returns-clause-unit g c =
    let found : found_at c.self.inside.slots c.args.table c.args.extent ≡ Some _ = sym c.get_mut.ensures.value ∙ ap option_copied_mut c.in-Some.is in
    c.evict-current.ensures.unit
    ∙ (ap (λ (s : Slot g.row.U.Denot). s.current) (slot_at-found c.self.inside.slots c.args.table c.args.extent _ found)
    ∙ ap (λ slots. (slot_at slots c.args.table c.args.extent).current) c.self.view_is)

pub returns-clause-build : goal.returns-clause-build
returns-clause-build g c =
    let found : found_at c.self.inside.slots c.args.table c.args.extent ≡ Some _ = sym c.get_mut.ensures.value ∙ ap option_copied_mut c.in-Some.is in
    c.evict-current.ensures.build
    ∙ (ap (λ (s : Slot g.row.U.Denot). s.growing) (slot_at-found c.self.inside.slots c.args.table c.args.extent _ found)
    ∙ ap (λ slots. (slot_at slots c.args.table c.args.extent).growing) c.self.view_is)

pub returns-in_default-clause-slot : goal.returns-in_default-clause-slot
returns-in_default-clause-slot g c =
    let none : found_at c.self.inside.slots c.args.table c.args.extent ≡ None = sym c.get_mut.ensures.value ∙ ap option_copied_mut c.in_default.is in
    slots_with-none slot_dropped c.self.inside.slots c.args.table c.args.extent none
    ∙ ap (slots_with slot_dropped c.args.table c.args.extent) c.self.view_is

pub returns-in_default-clause-unit : goal.returns-in_default-clause-unit
returns-in_default-clause-unit g c =
    let none : found_at c.self.inside.slots c.args.table c.args.extent ≡ None = sym c.get_mut.ensures.value ∙ ap option_copied_mut c.in_default.is in
    ap (λ (s : Slot g.row.U.Denot). s.current) (slot_at-none c.self.inside.slots c.args.table c.args.extent none)
    ∙ ap (λ slots. (slot_at slots c.args.table c.args.extent).current) c.self.view_is

pub returns-in_default-clause-build : goal.returns-in_default-clause-build
returns-in_default-clause-build g c =
    let none : found_at c.self.inside.slots c.args.table c.args.extent ≡ None = sym c.get_mut.ensures.value ∙ ap option_copied_mut c.in_default.is in
    ap (λ (s : Slot g.row.U.Denot). s.growing) (slot_at-none c.self.inside.slots c.args.table c.args.extent none)
    ∙ ap (λ slots. (slot_at slots c.args.table c.args.extent).growing) c.self.view_is
