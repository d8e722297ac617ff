use Rattle.im_core.proofs.HoldsLemmas.{Holds-nil}
use Rattle.im_core.proofs.store.Core.empty.Goals as goal

pub invariant_of-result : goal.invariant_of-result
invariant_of-result g c =
    rw (c.new.ensures, c.in_ok-new.ensures, c.new-3.ensures.items, c.new-4.ensures)
    (Holds-nil _ c.args.limits _ _ c.requires.store c.requires.changes c.in_ok-new-2.ensures c.new-6.ensures)
