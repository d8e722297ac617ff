use Rattle.std.proofs.Common.{◌≡◌, length, take, vec_len}
use Rattle.std.specs.Prelude.{vec_capacity}
use Rattle.im_codes.specs.Dictionary.{whole}
use Rattle.im_column.proofs.numbers.numbers_of.Given as goal

abbrev pub invariant-loop-value : goal.invariant-loop-value
invariant-loop-value l = record {
  numbers : whole l.numbers.items ≡ take l.value-index l.values;
  long : vec_len l.numbers ≡ l.value-index;
  room : vec_capacity l.numbers ≡ length l.values;
}
