use Rattle.std.proofs.Common.{◌≡◌, ℕ, ◌+◌, ◌<◌, length, slice_index}
use Rattle.im_column.proofs.column.codes_behind.Given as goal

abbrev pub invariant-loop-k : goal.invariant-loop-k
invariant-loop-k l = record {
  size : length l.out ≡ 64;
  codes : (k : ℕ) → k < l.k → slice_index l.out k ≡ slice_index l.runs (l.first + k);
}
