use Rattle.std.proofs.Common.{◌≡◌, ◌≤◌, ◌*◌, sum_by, take}
use Rattle.im_values.specs.Sizes.{value_bytes}
use Rattle.im_column.proofs.sizes.bytes_of.Given as goal

abbrev pub invariant-loop-value : goal.invariant-loop-value
invariant-loop-value l = record {
  bytes : l.bytes ≡ sum_by value_bytes (take l.value-index l.values);
  few : l.bytes ≤ l.value-index * 65538;
}
