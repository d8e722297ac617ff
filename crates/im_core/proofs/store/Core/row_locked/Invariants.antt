use Rattle.std.proofs.Common.{◌≡◌, drop}
use Rattle.im_history.specs.Refusals.{row_locked}
use Rattle.im_core.proofs.store.Core.row_locked.Given as goal

-- the first cause is among the changes that are left
abbrev pub invariant-loop-place : goal.invariant-loop-place
invariant-loop-place g l = row_locked l.self.log l.who l.changes ≡ row_locked l.self.log l.who (drop l.place l.changes)
