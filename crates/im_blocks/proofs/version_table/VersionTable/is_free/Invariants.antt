use Rattle.std.proofs.Common.{◌≡◌, ℕ, ◌<◌, ◌≤◌, []}
use Rattle.im_blocks.specs.Chains.{versions_at}
use Rattle.im_blocks.proofs.version_table.VersionTable.is_free.Given as goal

-- the row numbers so far have no version
abbrev pub invariant-loop-rid : goal.invariant-loop-rid
invariant-loop-rid l = (r : ℕ) → l.first ≤ r → r < l.rid → versions_at l.self l.table r ≡ []
