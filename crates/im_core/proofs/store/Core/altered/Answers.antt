use Rattle.std.proofs.Common.{sym, subst, arith}
use Rattle.im_history.specs.Legal.{Exists}
use Rattle.im_core.specs.Seen.{Seen}
use Rattle.im_core.proofs.RewriteLemmas.{exists_range}
use Rattle.im_core.proofs.store.Core.altered.Goals as goal

pub last_added-requires : goal.last_added-requires
last_added-requires g c =
    let exists = subst (λ (s : Seen). Exists s.log c.args.opening.table) (sym c.self.view_is) c.requires in
    let range = exists_range _ c.args.opening.table exists in
    let few = rw c.self.invariant.tables.tables at c.self.invariant.tables.few in
    omega (arith, range, few)
