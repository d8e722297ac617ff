use Rattle.std.proofs.Common.{◌≡◌, length, map, take, slice_index, vec_len}
use Rattle.std.specs.Prelude.{vec_capacity}
use Rattle.im_codes.proofs.coding.through.Given as goal

-- the codes so far, and room for all of them
abbrev pub invariant-loop-number : goal.invariant-loop-number
invariant-loop-number l = record {
  sent : l.sent.items ≡ map (λ n. slice_index l.codes n) (take l.number-index l.numbers);
  long : vec_len l.sent ≡ l.number-index;
  room : vec_capacity l.sent ≡ length l.numbers;
}
