use Rattle.std.proofs.Common.{◌≡◌, length, take, vec_len}
use Rattle.std.specs.Prelude.{vec_capacity}
use Rattle.im_codes.specs.Dictionary.{whole}
use Rattle.im_codes.proofs.lending.whole_values.Given as goal

-- the values so far, and room for all of them
abbrev pub invariant-loop-number : goal.invariant-loop-number
invariant-loop-number l = record {
  values : l.values.items ≡ whole (take l.number-index l.numbers);
  long : vec_len l.values ≡ l.number-index;
  room : vec_capacity l.values ≡ length l.numbers;
}
