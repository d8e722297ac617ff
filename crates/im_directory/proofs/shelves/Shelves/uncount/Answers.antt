use Rattle.im_directory.specs.Slots.{told}
use Rattle.im_directory.proofs.ListedLemmas.{AreListed-alike}
use Rattle.std.proofs.Common.{◌≡◌, Some, None, refl, sym, ap, ◌∙◌}
use Rattle.std.specs.Option.{option_copied_mut}
use Rattle.im_tables.specs.Table.{found_at}
use Rattle.im_directory.specs.Steps.{slot_uncounted, slots_with}
use Rattle.im_directory.proofs.SlotLemmas.{slots_with-found, slots_with-none}
use Rattle.im_directory.proofs.shelves.Shelves.uncount.Goals.{in-Some, in_default}
use Rattle.im_directory.proofs.shelves.Shelves.uncount.Goals as goal

pub returns : goal.returns
returns g c =
    let is = ap (slots_with (slot_uncounted) c.args.table c.args.extent) c.self.view_is in
    elim c.match-get_mut.branch [
      | in-Some w ↦
          let found : found_at c.self.inside.slots c.args.table c.args.extent ≡ Some _ = sym c.get_mut.ensures.value ∙ ap option_copied_mut w.in-Some.is in
          ap (λ inside. inside.slots) w.self-inside-is
          ∙ (slots_with-found (slot_uncounted) c.self.inside.slots c.args.table c.args.extent _ _ found
          w.uncount.ensures ∙ is)
      | in_default w ↦
          let none : found_at c.self.inside.slots c.args.table c.args.extent ≡ None = sym c.get_mut.ensures.value ∙ ap option_copied_mut w.in_default.is in
          ap (λ inside. inside.slots) w.self-inside-is ∙ (slots_with-none (slot_uncounted) c.self.inside.slots c.args.table c.args.extent none ∙ is)
    ]

pub invariant_of-self : goal.invariant_of-self
invariant_of-self g c =
    elim c.match-get_mut.branch [
      | in-Some w ↦
          let found : found_at c.self.inside.slots c.args.table c.args.extent ≡ Some _ = sym c.get_mut.ensures.value ∙ ap option_copied_mut w.in-Some.is in
          rw w.self-inside-is
          (AreListed-alike g.U.UnitLike.content c.self.inside.slots _ c.self.inside.lists c.self.inside.used c.args.table c.args.extent _ _ found
          (ap told w.uncount.ensures) refl
          c.self.invariant)
      | in_default w ↦ rw w.self-inside-is c.self.invariant
    ]
