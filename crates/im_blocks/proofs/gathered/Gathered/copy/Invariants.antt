use Rattle.std.proofs.Common.{drop, take}
use Rattle.im_history.specs.Fetched.{run_from}
use Rattle.im_blocks.specs.inner.Gathering.{Gathers}
use Rattle.im_blocks.proofs.gathered.Gathered.copy.Given as goal

-- the rows of the run before this one are read
abbrev pub invariant-loop-at : goal.invariant-loop-at
invariant-loop-at l = record {
  read : Gathers l.fn.self l.self (run_from l.rid (take l.at (drop l.from l.rows)));
}
