use Rattle.std.proofs.Common.{◌≡◌, true, sym, subst}
use Rattle.im_history.specs.Transactions.{is_open}
use Rattle.im_core.specs.Seen.{Seen}
use Rattle.im_core.proofs.HoldsLemmas.{Holds-rollback}
use Rattle.im_core.proofs.store.Core.rollback.Goals as goal

pub invariant_of-self : goal.invariant_of-self
invariant_of-self g c =
    let opened = subst (λ (s : Seen). is_open s.log c.args.who ≡ true) (sym c.self.view_is) c.requires.transaction in
    Holds-rollback _ _ c.self.inside.history _ _ c.args.who _ c.self.invariant c.requires.session opened c.append.ensures.added
    (rw c.of-caller.ensures at c.clear.ensures.after)
