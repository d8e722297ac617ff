use Rattle.std.proofs.Common.{◌≡◌, ◌*◌, ◌≤◌, take}
use Rattle.im_values.specs.declared.content.Content.TheVariants.{Null}
use Rattle.im_codes.specs.Dictionary.{coded, values_at}
use Rattle.im_column.specs.inner.Sized.{IsSummary, IsWithin}
use Rattle.im_column.proofs.picking.summarize_codes.Given as goal

-- the summary of the values of the codes so far
abbrev pub invariant-loop-i : goal.invariant-loop-i
invariant-loop-i l = record {
  summary : IsSummary (take l.i (values_at (coded l.dict) l.codes)) l.summary.nulls l.summary.sum l.summary.bytes;
  within : IsWithin l.i l.summary.sum;
  nulls : l.summary.nulls ≤ l.i;
  few : l.summary.bytes ≤ l.i * 65538;
  null : l.null ≡ Null;
}
