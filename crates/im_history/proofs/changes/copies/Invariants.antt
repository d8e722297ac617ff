use Rattle.std.proofs.Common.{◌≡◌, take}
use Rattle.im_history.proofs.changes.copies.Given as goal

-- the changes so far are copied
abbrev pub invariant-loop-change : goal.invariant-loop-change
invariant-loop-change l = l.copies.items ≡ take l.change-index l.changes
