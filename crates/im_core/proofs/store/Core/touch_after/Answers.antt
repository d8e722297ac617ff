use Rattle.std.proofs.Common.{◌<◌, ◌≤◌, subst, ◌∙◌}
use Rattle.im_blocks.proofs.ForCallers.{touches_kept}
use Rattle.im_history.specs.Puts.{lent_change}
use Rattle.im_core.proofs.RefusalLemmas.{touch_found, touch_none}
use Rattle.im_core.proofs.SeenLemmas.{Holds-seen}
use Rattle.im_core.proofs.store.Core.touch_after.Goals as goal

pub returns-then-last-scn : goal.returns-then-last-scn
returns-then-last-scn g c =
    let is = c.latest-last.ensures in
    let tells = touches_kept _ _ (Holds-seen c.self.invariant c.self.view_is).rows in
    touch_found _ c.args.scn _ (lent_change c.args.change) (is ∙ tells.later _ _ c.args.scn (subst (λ n. c.args.scn < n) is c.if-last-scn.true))
    c.if-last-scn.true

pub returns-else-last-scn : goal.returns-else-last-scn
returns-else-last-scn g c =
    let tells = touches_kept _ _ (Holds-seen c.self.invariant c.self.view_is).rows in
    touch_none _ c.args.scn (lent_change c.args.change)
    (tells.not_later _ _ c.args.scn c.requires (subst (λ n. n ≤ c.args.scn) c.latest-last.ensures c.if-last-scn.false))
