use Rattle.std.proofs.Common.{◌≡◌, drop}
use Rattle.im_history.specs.Refusals.{serialize}
use Rattle.im_core.proofs.store.Core.serialize.Given as goal

-- the first cause is among the changes that are left
abbrev pub invariant-loop-place : goal.invariant-loop-place
invariant-loop-place g l = serialize l.self.log l.scn l.changes ≡ serialize l.self.log l.scn (drop l.place l.changes)
