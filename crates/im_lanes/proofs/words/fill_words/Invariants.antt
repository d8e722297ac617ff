use Rattle.std.proofs.Common.{◌≡◌, ℕ, ◌*◌, ◌^◌, ◌<◌, ◌≤◌, ◌||◌, slice_index}
use Rattle.im_lanes.specs.Masks.{bit_in, is_within}
use Rattle.im_lanes.proofs.words.fill_words.Given as goal

abbrev pub invariant-loop-place : goal.invariant-loop-place
invariant-loop-place l = record {
  small : (k : ℕ) → slice_index l.words k < 2 ^ 64;
  done : (k : ℕ) → k < l.place * 64 → bit_in l.words k ≡ (is_within l.from l.end k || bit_in l.fn.words k);
  rest : (k : ℕ) → l.place * 64 ≤ k → bit_in l.words k ≡ bit_in l.fn.words k;
}
