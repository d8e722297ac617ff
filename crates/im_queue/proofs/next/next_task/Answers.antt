use Rattle.std.proofs.Common.{◌∙◌, arith, sym}
use Rattle.im_queue.proofs.NextLemmas.{next-due, next-empty, next-none, next-stale}
use Rattle.im_queue.proofs.next.next_task.Goals as goal

pub returns-in-Some : goal.returns-in-Some
returns-in-Some g c history is = next-empty history c.in-Some.choice (c.in-Some.ensures history (rw c.tables.ensures.tables is))

pub returns-in-Some-most_urgent : goal.returns-in-Some-most_urgent
returns-in-Some-most_urgent g c history is =
    next-due history c.in-Some-most_urgent.choice (c.in_default.ensures history (rw c.tables.ensures.tables is))
    (c.in-Some-most_urgent.ensures history (rw c.tables.ensures.tables is))

pub returns-then-credits-eq0 : goal.returns-then-credits-eq0
returns-then-credits-eq0 g c history is =
    next-none history c.args.demand.now is.demands (c.in_default.ensures history (rw c.tables.ensures.tables is))
    (c.in_default-most_urgent.ensures history (rw c.tables.ensures.tables is)) (sym c.credits.ensures ∙ c.if-credits-eq0.true)

pub returns : goal.returns
returns g c history is =
    next-stale history c.args.demand.now c.most_urgent-3.result is.demands (c.in_default.ensures history (rw c.tables.ensures.tables is))
    (c.in_default-most_urgent.ensures history (rw c.tables.ensures.tables is)) (omega (arith, c.if-credits-eq0.false, c.credits.ensures))
    (c.most_urgent-3.ensures history (rw c.tables.ensures.tables is))
