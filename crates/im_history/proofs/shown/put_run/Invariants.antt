use Rattle.std.proofs.Common.{◌≡◌, ◌++◌, map, take, Some}
use Rattle.im_history.proofs.shown.put_run.Given as goal

-- the rows so far are there
abbrev pub invariant-loop-at : goal.invariant-loop-at
invariant-loop-at l = l.rows.items ≡ l.fn.rows.items ++ map (λ row. Some row) (take l.at l.run)
