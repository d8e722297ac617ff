use Rattle.std.proofs.Common.{◌-◌}
use Rattle.im_blocks.specs.inner.Puts.{AreEntered}
use Rattle.im_blocks.proofs.entering.enter_cells.Given as goal

-- the slots of the row numbers so far went into the run
abbrev pub invariant-loop-rid : goal.invariant-loop-rid
invariant-loop-rid l = AreEntered l.all_runs l.all_chains l.number l.run (l.rid - l.run.first) l.fn.cells l.cells
