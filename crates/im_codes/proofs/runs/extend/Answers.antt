use Rattle.std.proofs.Common.{arith, refl}
use Rattle.im_codes.proofs.RunLemmas.{last-end, extends-last, extends-next}
use Rattle.im_codes.proofs.runs.extend.Goals as goal

pub overflow_add-end : goal.overflow_add-end
overflow_add-end c = omega (arith, last-end _ _ _ c.requires.runs c.in-Some.ensures.items, c.requires.few)

pub overflow_add-end-in-Some-2 : goal.overflow_add-end-in-Some-2
overflow_add-end-in-Some-2 c = omega (arith, last-end _ _ _ c.requires.runs c.in-Some.ensures.items, c.requires.few)

pub returns-in_ok-push-in-Some : goal.returns-in_ok-push-in-Some
returns-in_ok-push-in-Some c = rw c.in_ok-push-in-Some.ensures.items (extends-last _ _ _ _ c.requires.runs c.in-Some.ensures.items c.if-last-code.true refl)

pub returns-in_ok-push-in-Some-2-2 : goal.returns-in_ok-push-in-Some-2-2
returns-in_ok-push-in-Some-2-2 c =
    rw (c.in_ok-push-in-Some-2-2.ensures.items, c.in_ok-push-in-Some-2.ensures.items)
    (extends-next _ _ _ _ c.requires.runs c.in-Some.ensures.items c.if-last-code.false refl)
