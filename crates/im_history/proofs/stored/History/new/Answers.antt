use Rattle.std.proofs.Common.{List, sym, subst, arith}
use Rattle.im_history.specs.declared.entry.Entry.{Entry}
use Rattle.im_history.specs.inner.Places.{ArePlaces}
use Rattle.im_history.proofs.stored.History.new.Goals as goal

pub invariant_of-result : goal.invariant_of-result
invariant_of-result c = (
  omega arith,
  c.new-2.ensures.room,
  subst (λ (h : List Entry). ArePlaces c.new-2.result h) (sym c.new.ensures.items) c.new-2.ensures.places,
)
