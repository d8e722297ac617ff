use Rattle.std.proofs.Common.{◌*◌, ◌≤◌, take}
use Rattle.im_codes.specs.Dictionary.{lent}
use Rattle.im_column.specs.inner.Sized.{IsSummary, IsWithin}
use Rattle.im_column.proofs.summary.summarize.Given as goal

abbrev pub invariant-loop-i : goal.invariant-loop-i
invariant-loop-i l = record {
  summary : IsSummary (take l.i (lent l.values)) l.summary.nulls l.summary.sum l.summary.bytes;
  within : IsWithin l.i l.summary.sum;
  nulls : l.summary.nulls ≤ l.i;
  few : l.summary.bytes ≤ l.i * 65538;
}
