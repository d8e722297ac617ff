use Rattle.std.proofs.Common.{◌≡◌, drop, map}
use Rattle.im_history.specs.Horizon.{least}
use Rattle.im_txn.proofs.cursor.least_scn.Given as goal

-- the least of those that are left and of the least so far is the least of all
abbrev pub invariant-loop-cursor : goal.invariant-loop-cursor
invariant-loop-cursor l =
    least l.least (map (λ cursor. cursor.scn) (drop l.cursor-index l.cursors)) ≡ least l.fn.most (map (λ cursor. cursor.scn) l.cursors)
