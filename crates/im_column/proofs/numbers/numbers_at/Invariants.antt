use Rattle.std.proofs.Common.{◌≡◌, length, take, vec_len}
use Rattle.std.specs.Prelude.{vec_capacity}
use Rattle.im_codes.specs.Dictionary.{values_at, whole}
use Rattle.im_column.proofs.numbers.numbers_at.Given as goal

abbrev pub invariant-loop-i : goal.invariant-loop-i
invariant-loop-i l = record {
  numbers : whole l.numbers.items ≡ values_at (whole l.stock) (take l.i l.places);
  long : vec_len l.numbers ≡ l.i;
  room : vec_capacity l.numbers ≡ length l.places;
}
