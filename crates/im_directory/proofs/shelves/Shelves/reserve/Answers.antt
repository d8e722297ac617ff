use Rattle.im_directory.proofs.ListedLemmas.{AreListed-grown, AreListed-kept}
use Rattle.im_directory.proofs.shelves.Shelves.reserve.Goals as goal

pub invariant_of-self : goal.invariant_of-self
invariant_of-self g c = AreListed-kept g.U.UnitLike.content _ _ _ _ c.reserve.ensures.same c.self.invariant

pub invariant_of-self-2 : goal.invariant_of-self-2
invariant_of-self-2 g c =
    AreListed-grown g.U.UnitLike.content _ _ _ _ c.args.table c.args.extent c.reserve-2.ensures.same c.reserve-2.ensures.only c.in_ok-reserve.ensures.there
    (AreListed-kept g.U.UnitLike.content _ _ _ _ c.reserve.ensures.same c.self.invariant)

pub invariant_of-self-in_err-reserve-2 : goal.invariant_of-self-in_err-reserve-2
invariant_of-self-in_err-reserve-2 g c =
    AreListed-grown g.U.UnitLike.content _ _ _ _ c.args.table c.args.extent c.reserve-2.ensures.same c.reserve-2.ensures.only c.in_ok-reserve.ensures.there
    (AreListed-kept g.U.UnitLike.content _ _ _ _ c.reserve.ensures.same c.self.invariant)
