use Rattle.std.proofs.Common.{refl, sym, subst, arith}
use Rattle.im_blocks.specs.Chains.{AllVersions}
use Rattle.im_blocks.specs.Transitions.{IsBefore}
use Rattle.im_blocks.proofs.ForCallers.{IsBefore-nil}
use Rattle.im_standby.proofs.StandingLemmas.{IsOf-none}
use Rattle.im_standby.proofs.standby.Standby.new.Goals as goal

pub invariant_of-result : goal.invariant_of-result
invariant_of-result c = subst (λ (b : AllVersions). IsBefore b 1) (sym c.new-3.ensures) (IsBefore-nil 1 (omega arith))

pub returns : goal.returns
returns c = IsOf-none _ refl c.in_ok-new.ensures c.new-2.ensures.items c.new-3.ensures
