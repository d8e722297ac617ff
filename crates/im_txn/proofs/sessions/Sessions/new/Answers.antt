use Rattle.std.proofs.Common.{◌≡◌, arith, ap, ◌∙◌, subst, sym, List, replicate}
use Rattle.im_values.specs.declared.limits.TheConstants.{NUMBERS}
use Rattle.im_txn.specs.Activity.{Activity, idle}
use Rattle.im_txn.specs.Effects.{IsIdle}
use Rattle.im_txn.specs.LockCells.{Locks}
use Rattle.im_txn.specs.Standing.{IsCounted}
use Rattle.im_txn.proofs.StandingLemmas.{idle-counted, idle-idle}
use Rattle.im_txn.proofs.sessions.Sessions.new.Goals as goal

pub invariant_of-result : goal.invariant_of-result
invariant_of-result c =
    let full : c.loop-count._count ≡ NUMBERS = omega (arith, c.loop-count-test.false, c.loop-count.auto) in
    let all : c.loop-count.sessions.items ≡ replicate NUMBERS idle = c.loop-count.invariant ∙ ap (λ n. replicate n idle) full in
    subst (λ (l : List Activity). IsCounted (record { activities = l; locks = c.new-2.result; owed = 0 })) (sym all) (idle-counted c.new-2.result)

pub returns : goal.returns
returns c =
    let full : c.loop-count._count ≡ NUMBERS = omega (arith, c.loop-count-test.false, c.loop-count.auto) in
    let all : c.loop-count.sessions.items ≡ replicate NUMBERS idle = c.loop-count.invariant ∙ ap (λ n. replicate n idle) full in
    subst (λ (l : List Activity). IsIdle (record { activities = l; locks = c.new-2.result; owed = 0 })) (sym all)
    (subst (λ (l : Locks). IsIdle (record { activities = replicate NUMBERS idle; locks = l; owed = 0 })) (sym c.new-2.ensures) idle-idle)
