use Rattle.std.proofs.Common.{◌≡◌, ℕ, ◌*◌, ◌^◌, ◌<◌, ◌≤◌, ◌&&◌, not, nat_lt, slice_index}
use Rattle.im_lanes.specs.Masks.{bit_in}
use Rattle.im_lanes.proofs.words.not_words.Given as goal

abbrev pub invariant-loop-i : goal.invariant-loop-i
invariant-loop-i l = record {
  small : (k : ℕ) → slice_index l.words k < 2 ^ 64;
  same : (k : ℕ) → l.i ≤ k → slice_index l.words k ≡ slice_index l.fn.words k;
  done : (k : ℕ) → k < l.i * 64 → bit_in l.words k ≡ (nat_lt k l.len && not (bit_in l.fn.words k));
  rest : (k : ℕ) → l.i * 64 ≤ k → bit_in l.words k ≡ bit_in l.fn.words k;
}
