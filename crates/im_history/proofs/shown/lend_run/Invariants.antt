use Rattle.std.proofs.Common.{◌≡◌, ◌++◌, take}
use Rattle.im_history.specs.Fetched.{run_from}
use Rattle.im_history.proofs.shown.lend_run.Given as goal

-- the rows so far are lent
abbrev pub invariant-loop-at : goal.invariant-loop-at
invariant-loop-at l = l.rows.items ≡ l.fn.rows.items ++ run_from l.first (take l.at l.run)
