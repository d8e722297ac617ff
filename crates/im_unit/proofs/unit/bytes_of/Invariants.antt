use Rattle.std.proofs.Common.{◌≡◌, ◌≤◌, ◌*◌, ◌^◌, map, sum_by, take}
use Rattle.std.specs.Arc.{arc_value}
use Rattle.im_values.specs.Sizes.{column_bytes}
use Rattle.im_unit.proofs.unit.bytes_of.Given as goal

abbrev pub invariant-loop-column : goal.invariant-loop-column
invariant-loop-column l = record {
  bytes : l.bytes ≡ sum_by column_bytes (map arc_value (take l.column-index l.columns));
  few : l.bytes ≤ l.column-index * 2 ^ 49;
}
