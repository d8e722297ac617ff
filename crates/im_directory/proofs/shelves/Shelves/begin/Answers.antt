use Rattle.std.proofs.Common.{refl}
use Rattle.im_directory.specs.Steps.{slot_begun}
use Rattle.im_directory.proofs.ListedLemmas.{AreListed-one}
use Rattle.im_directory.proofs.shelves.Shelves.begin.Goals as goal

pub put-requires : goal.put-requires
put-requires g c = c.self.invariant.room c.args.table c.args.extent (rw (← c.self.view_is) at c.requires.there)

pub invariant_of-self : goal.invariant_of-self
invariant_of-self g c =
    AreListed-one g.U.UnitLike.content (slot_begun c.args.id) _ _ _ _ c.args.table c.args.extent _ _ _ (rw (← c.self.view_is) at c.requires.there)
    c.cell_mut-slot.ensures.value c.begin.ensures c.marks.ensures c.put.ensures (λ s. refl) c.self.invariant
