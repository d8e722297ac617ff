use Rattle.std.proofs.Common.{List, sym, subst, arith}
use Rattle.im_history.specs.declared.entry.Entry.{Entry}
use Rattle.im_history.specs.inner.Places.{ArePlaces}
use Rattle.im_history.proofs.PlaceLaws.{ArePlaces-roomier}
use Rattle.im_history.proofs.stored.History.reserve.Goals as goal

pub invariant_of-self-in_err-reserve-2 : goal.invariant_of-self-in_err-reserve-2
invariant_of-self-in_err-reserve-2 c =
    let capacity = c.reserve.ensures.capacity in
    let long = c.reserve.ensures.len in
    let before = c.self.invariant.0 in (
      omega (arith, capacity, long, before),
      c.reserve-2.ensures.same.room c.self.inside.spare c.self.invariant.1,
      subst (λ (h : List Entry). ArePlaces c.reserve-2.new.self h) (sym c.reserve.ensures.items)
          (ArePlaces-roomier c.self.inside.places c.reserve-2.new.self c.self.inside.entries.items c.self.invariant.2 c.reserve-2.ensures.same),
    )
