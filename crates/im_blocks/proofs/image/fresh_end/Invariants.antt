use Rattle.std.proofs.Common.{◌≡◌, ℕ, ◌<◌, ◌≤◌, false, get_or, true}
use Rattle.im_blocks.proofs.image.fresh_end.Given as goal

-- the places so far are fresh
abbrev pub invariant-loop-place : goal.invariant-loop-place
invariant-loop-place l = (i : ℕ) → l.from ≤ i → i < l.place → get_or l.fresh i false ≡ true
