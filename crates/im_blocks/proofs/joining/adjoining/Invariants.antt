use Rattle.std.proofs.Common.{◌+◌, ◌^◌, ◌≤◌, length}
use Rattle.im_blocks.proofs.joining.adjoining.Given as goal

-- the last rows are at numbers of 64 bits
abbrev pub invariant-loop-place : goal.invariant-loop-place
invariant-loop-place l = l.last.first + length l.last.rows.now ≤ 2 ^ 63
