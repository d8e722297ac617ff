use Rattle.im_session.specs.inner.Pins.{GoesOnBy}
use Rattle.im_session.proofs.parts.with_parts.Given as goal

-- what came before went on to what it and the pins so far give
abbrev pub invariant-loop-i : goal.invariant-loop-i
invariant-loop-i l = GoesOnBy l.cursor.bound l.cursor.view l.first l.pins l.i l.fn.before l.before
