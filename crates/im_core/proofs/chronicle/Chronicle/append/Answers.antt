use Rattle.std.proofs.Common.{◌≡◌, [], ◌∷◌, ◌++◌, sym, subst, ◌∙◌}
use Rattle.im_history.specs.Horizon.{horizon}
use Rattle.im_history.specs.Stored.{Stored}
use Rattle.im_history.proofs.HorizonLaws.{horizon-quiet}
use Rattle.im_core.proofs.chronicle.Chronicle.append.Goals as goal

pub add-requires-clause-horizon : goal.add-requires-clause-horizon
add-requires-clause-horizon c =
    subst (λ (s : Stored). c.self.inside.horizon ≡ horizon (s.entries ++ c.args.entry ∷ [])) c.self.view_is
    (c.self.invariant.3 ∙ sym (horizon-quiet c.self.inside.history.entries c.args.entry c.requires.still))
