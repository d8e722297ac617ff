use Rattle.std.proofs.Common.{◌≡◌, ℕ, ◌+◌, ◌<◌, length, slice_index}
use Rattle.im_bits.proofs.bits.Bits.block_one_by_one.Given as goal

abbrev pub invariant-loop-k : goal.invariant-loop-k
invariant-loop-k l = record {
  size : length l.out ≡ 640;
  codes : (k : ℕ) → k < l.k → slice_index l.out k ≡ slice_index l.self.codes (l.first + k);
}
