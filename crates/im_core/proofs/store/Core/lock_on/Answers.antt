use Rattle.std.proofs.Common.{sym, ◌∙◌}
use Rattle.im_history.specs.Puts.{lent_change}
use Rattle.im_core.proofs.RefusalLemmas.{lock_is}
use Rattle.im_core.proofs.SeenLemmas.{Holds-seen}
use Rattle.im_core.proofs.store.Core.lock_on.Goals as goal

pub returns-in_err-holder : goal.returns-in_err-holder
returns-in_err-holder g c =
    c.from_residual.ensures
    ∙ lock_is _ _ c.args.who (lent_change c.args.change) _ (Holds-seen c.self.invariant c.self.view_is).sessions (sym c.in_err-holder.was ∙ c.holder.ensures)

pub returns : goal.returns
returns g c = lock_is _ _ c.args.who (lent_change c.args.change) _ (Holds-seen c.self.invariant c.self.view_is).sessions (sym c.in_ok-holder.was ∙ c.holder.ensures)
