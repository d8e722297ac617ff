use Rattle.std.proofs.Common.{◌*◌, length, min}
use Rattle.im_session.specs.inner.Pins.{GoesOnBy}
use Rattle.im_session.proofs.parts.merged_chunks.Given as goal

-- what the cursor keeps went on to what it and the pins of the chunks so far give
abbrev pub invariant-loop-chunk : goal.invariant-loop-chunk
invariant-loop-chunk g l =
    GoesOnBy l.cursor.bound l.cursor.view l.cursor.next l.pins (min (length l.yielded * l.size) (length l.pins)) l.cursor.part l.all
