use Rattle.std.proofs.Common.{◌≡◌, ℕ, ◌+◌, ◌*◌, ◌<◌, length, slice_index}
use Rattle.im_bits.proofs.bits.Bits.lanes_of.Given as goal

abbrev pub invariant-loop-k : goal.invariant-loop-k
invariant-loop-k l = record {
  size : length l.lanes ≡ 64;
  codes : (k : ℕ) → k < l.k → slice_index l.lanes k ≡ slice_index l.self.codes (l.place * 64 + k);
}
