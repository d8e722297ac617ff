use Rattle.std.proofs.Common.{ℕ, ◌+◌, ◌<◌, ◌≤◌}
use Rattle.im_blocks.specs.Chains.{newest_scn, versions_at}
use Rattle.im_blocks.proofs.drawing.newest_among.Given as goal

-- no version at the row numbers so far is newer
abbrev pub invariant-loop-at : goal.invariant-loop-at
invariant-loop-at l = (i : ℕ) → i < l.at → newest_scn (versions_at l.versions l.table (l.first + i)) ≤ l.scn
