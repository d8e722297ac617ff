use Rattle.std.proofs.Common.{◌≡◌, ◌++◌, take}
use Rattle.im_history.specs.Fetched.{each_at}
use Rattle.im_history.proofs.shown.lend_each.Given as goal

-- the rows so far are lent
abbrev pub invariant-loop-at : goal.invariant-loop-at
invariant-loop-at l = l.rows.items ≡ l.fn.rows.items ++ each_at (take l.at l.rids) (take l.at l.run)
