use Rattle.std.proofs.Common.{◌*◌, ◌≤◌, length, take}
use Rattle.im_codes.specs.Dictionary.{whole}
use Rattle.im_column.specs.inner.Sized.{IsSummary, IsWithin}
use Rattle.im_column.proofs.numbers.summarize_numbers.Given as goal

abbrev pub invariant-loop-i : goal.invariant-loop-i
invariant-loop-i l = record {
  summary : IsSummary (take l.i (whole l.numbers)) 0 l.sum (9 * l.i);
  within : IsWithin l.i l.sum;
  most : l.i ≤ length l.numbers;
}
