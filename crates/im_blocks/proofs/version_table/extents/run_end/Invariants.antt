use Rattle.std.proofs.Common.{◌≡◌, ℕ, ◌<◌, ◌≤◌, get_or}
use Rattle.im_blocks.specs.declared.slot.Slot.TheVariants.{Empty, InRun}
use Rattle.im_blocks.proofs.version_table.extents.run_end.Given as goal

-- the row numbers so far are in the run
abbrev pub invariant-loop-rid : goal.invariant-loop-rid
invariant-loop-rid l = (r : ℕ) → l.from ≤ r → r < l.rid → get_or l.cells r Empty ≡ InRun l.number
