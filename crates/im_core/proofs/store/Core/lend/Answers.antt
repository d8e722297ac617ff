use Rattle.std.proofs.Common.{◌≡◌, sym, subst}
use Rattle.std.specs.Result.{IfOk}
use Rattle.im_core.specs.Answers.{content_in}
use Rattle.im_core.proofs.LendLemmas.{lent-by}
use Rattle.im_core.proofs.SeenLemmas.{Holds-seen}
use Rattle.im_core.proofs.store.Core.lend.Goals as goal

pub returns-in-Some : goal.returns-in-Some
returns-in-Some g c =
    let lent = lent-by _ _ _ c.args.table c.args.extent c.args.scn c.in-Some.unit.now.value (Holds-seen c.self.invariant c.self.view_is).units
    (sym c.in-Some.ensures) in
    subst (λ x. IfOk c.lend_up_to.result (λ unit. content_in g.U.UnitLike.content unit ≡ x)) lent c.lend_up_to.ensures
