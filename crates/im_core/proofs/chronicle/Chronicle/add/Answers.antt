use Rattle.std.proofs.Common.{◌≡◌, [], ◌∷◌, ◌++◌, sym, subst, arith}
use Rattle.im_history.specs.Horizon.{horizon}
use Rattle.im_history.specs.Stored.{Stored}
use Rattle.im_queue.specs.Demand.{IsPaid}
use Rattle.im_queue.proofs.ForCallers.{HasDemandRoom-is, IsDemand-push}
use Rattle.im_core.proofs.LastColumnLemmas.{AreLast-push}
use Rattle.im_core.proofs.chronicle.Chronicle.add.Goals as goal

pub note-requires-2 : goal.note-requires-2
note-requires-2 c =
    HasDemandRoom-is c.self.inside.history.entries c.self.inside.demand c.self.invariant.0
    (let few = c.self.invariant.1 in omega (arith, few))

pub invariant_of-self : goal.invariant_of-self
invariant_of-self c =
    let pushed =
    IsDemand-push c.self.inside.history.entries c.args.entry c.self.inside.demand c.self.invariant.0 c.note-2.ensures.small
    (subst (λ (s : Stored). IsPaid s.entries c.args.entry.what) (sym c.self.view_is) c.requires.paid) in
    let placed = AreLast-push c.self.inside.history.entries c.args.entry c.self.inside.columns c.self.invariant.2 in (
      rw (c.append.ensures.added, c.note-2.ensures.demand) pushed,
      c.append.ensures.few,
      rw (c.append.ensures.added, c.note.ensures, c.len.ensures) placed,
      rw c.append.ensures.added (subst (λ (s : Stored). c.args.behind ≡ horizon (s.entries ++ c.args.entry ∷ [])) (sym c.self.view_is) c.requires.horizon),
    )
