use Rattle.std.proofs.Common.{refl, sym, ap, ◌∙◌, arith}
use Rattle.std.specs.Option.{IsSome}
use Rattle.im_history.specs.Contents.{unit_bytes}
use Rattle.im_tables.specs.Table.{HasCell}
use Rattle.im_directory.specs.Lists.{current_bytes}
use Rattle.im_directory.specs.Steps.{slot_switched}
use Rattle.im_directory.proofs.ListedLemmas.{AreListed-left, switched_bytes, used_left}
use Rattle.im_directory.proofs.SlotLemmas.{HasCell-growing}
use Rattle.im_directory.proofs.shelves.Shelves.switch.Goals as goal

pub cell_mut-slot-requires : goal.cell_mut-slot-requires
cell_mut-slot-requires g c = rw c.self.view_is (HasCell-growing c.args.self.now c.args.table c.args.extent c.requires.living)

pub put-requires : goal.put-requires
put-requires g c =
    c.self.invariant.room c.args.table c.args.extent (rw c.self.view_is (HasCell-growing c.args.self.now c.args.table c.args.extent c.requires.living))

pub overflow_sub-self : goal.overflow_sub-self
overflow_sub-self g c =
    let has : HasCell c.self.inside.slots c.args.table c.args.extent =
    rw c.self.view_is (HasCell-growing c.args.self.now c.args.table c.args.extent c.requires.living) in
    let left =
    used_left g.U.UnitLike.content c.self.inside.slots c.self.inside.lists c.self.inside.used c.args.table c.args.extent _ c.bytes_of.result has
    c.cell_mut-slot.ensures.value (c.bytes_of.ensures ∙ ap (current_bytes g.U.UnitLike.content) c.switch-before.ensures.before) c.self.invariant in
    omega (arith, left)

pub invariant_of-self : goal.invariant_of-self
invariant_of-self g c =
    let has : HasCell c.self.inside.slots c.args.table c.args.extent =
    rw c.self.view_is (HasCell-growing c.args.self.now c.args.table c.args.extent c.requires.living) in
    let lives : IsSome c.cell_mut-slot.result.now.growing = rw (c.cell_mut-slot.ensures.value, c.self.view_is) c.requires.living in
    AreListed-left g.U.UnitLike.content (slot_switched c.args.unit) c.self.inside.slots c.self.inside.lists _ c.self.inside.used c.bytes.result _ c.args.table
    c.args.extent _ _ _ c.bytes_of.result has c.cell_mut-slot.ensures.value c.switch-before.ensures.slot c.marks.ensures c.put.ensures
    (c.bytes_of.ensures ∙ ap (current_bytes g.U.UnitLike.content) c.switch-before.ensures.before)
    (switched_bytes g.U.UnitLike.content c.args.unit c.cell_mut-slot.result.now.growing lives
    ∙ sym (c.bytes.ensures ∙ ap (λ u. unit_bytes (g.U.UnitLike.content u)) c.deref.ensures)) refl c.self.invariant
