use Rattle.std.specs.Prelude.{take}
use Rattle.im_history.specs.Puts.{all_changes}
use Rattle.im_standby.specs.inner.Applying.{IsNoted}
use Rattle.im_standby.proofs.ends.noted.Given as goal

-- the changes of the pieces so far are noted
abbrev pub invariant-loop-piece : goal.invariant-loop-piece
invariant-loop-piece l = IsNoted l.fn.ends l.noted.items (all_changes (take l.piece-index l.pieces))
