use Rattle.std.proofs.Common.{take}
use Rattle.im_blocks.specs.inner.Joining.{AreLaid}
use Rattle.im_blocks.proofs.joining.lay.Given as goal

-- the rows so far are laid
abbrev pub invariant-loop-at : goal.invariant-loop-at
invariant-loop-at l = AreLaid l.width l.fn.values.items (take l.at l.rows) l.values.items
