use Rattle.std.proofs.Common.{◌≡◌, ◌+◌}
use Rattle.im_blocks.proofs.version_table.extents.count.Given as goal

-- so many steps are counted
abbrev pub invariant-loop : goal.invariant-loop
invariant-loop g l = l.steps ≡ l.fn.steps + l.counter
