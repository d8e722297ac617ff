use Rattle.im_directory.proofs.ListedLemmas.{AreListed-alike}
use Rattle.std.proofs.Common.{◌≡◌, Some, None, refl, sym, ap, ◌∙◌}
use Rattle.std.specs.Option.{option_copied_mut}
use Rattle.im_tables.specs.Table.{found_at}
use Rattle.std.proofs.lemmas.Result.{on_ok_weaker}
use Rattle.im_directory.specs.Steps.{slot_counted, slots_with}
use Rattle.im_directory.proofs.SlotLemmas.{TellsAlike-found, TellsAlike-none, slots_with-found, slots_with-none}
use Rattle.im_directory.proofs.shelves.Shelves.count.Goals.{in-Some, in-None}
use Rattle.im_directory.proofs.shelves.Shelves.count.Goals as goal

pub returns-clause-same : goal.returns-clause-same
returns-clause-same g c =
    elim c.match-get_mut.branch [
      | in-Some w ↦
          let found : found_at c.self.inside.slots c.args.table c.args.extent ≡ Some _ = sym c.get_mut.ensures.value ∙ ap option_copied_mut w.in-Some.is in
          rw (w.self-inside-is, ← c.self.view_is) (TellsAlike-found c.self.inside.slots c.args.table c.args.extent _ _ found
          w.count.ensures.same)
      | in-None w ↦ rw (w.self-inside-is, ← c.self.view_is) (TellsAlike-none c.self.inside.slots)
    ]

pub returns-clause-counted : goal.returns-clause-counted
returns-clause-counted g c =
    let is = ap (slots_with slot_counted c.args.table c.args.extent) c.self.view_is in
    elim c.match-get_mut.branch [
      | in-Some w ↦
          let found : found_at c.self.inside.slots c.args.table c.args.extent ≡ Some _ = sym c.get_mut.ensures.value ∙ ap option_copied_mut w.in-Some.is in
          rw w.result-is
          (on_ok_weaker w.count.result
          (λ changed. ap (λ inside. inside.slots) w.self-inside-is
          ∙ (slots_with-found slot_counted c.self.inside.slots c.args.table c.args.extent _ _ found
          changed ∙ is)) w.count.ensures.counted)
      | in-None w ↦
          let none : found_at c.self.inside.slots c.args.table c.args.extent ≡ None = sym c.get_mut.ensures.value ∙ ap option_copied_mut w.in-None.is in
          rw w.result-is
          (ap (λ inside. inside.slots) w.self-inside-is
          ∙ (slots_with-none slot_counted c.self.inside.slots c.args.table c.args.extent none ∙ is))
    ]

pub invariant_of-self : goal.invariant_of-self
invariant_of-self g c =
    elim c.match-get_mut.branch [
      | in-Some w ↦
          let found : found_at c.self.inside.slots c.args.table c.args.extent ≡ Some _ = sym c.get_mut.ensures.value ∙ ap option_copied_mut w.in-Some.is in
          rw w.self-inside-is
          (AreListed-alike g.U.UnitLike.content c.self.inside.slots _ c.self.inside.lists c.self.inside.used c.args.table c.args.extent _ _ found
          w.count.ensures.same refl
          c.self.invariant)
      | in-None w ↦ rw w.self-inside-is c.self.invariant
    ]
