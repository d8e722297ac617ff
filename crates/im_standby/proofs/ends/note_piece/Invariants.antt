use Rattle.std.specs.Prelude.{take}
use Rattle.im_standby.specs.inner.Applying.{IsNoted}
use Rattle.im_standby.proofs.ends.note_piece.Given as goal

-- the changes so far are noted
abbrev pub invariant-loop-place : goal.invariant-loop-place
invariant-loop-place l = IsNoted l.fn.ends.items l.ends.items (take l.place l.piece)
