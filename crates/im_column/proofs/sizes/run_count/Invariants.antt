use Rattle.std.proofs.Common.{◌≡◌, ◌≤◌, take}
use Rattle.im_codes.specs.Runs.{run_count}
use Rattle.im_column.proofs.sizes.run_count.Given as goal

abbrev pub invariant-loop-i : goal.invariant-loop-i
invariant-loop-i l = record {
  count : l.count ≡ run_count (take l.i l.codes);
  most : l.count ≤ l.i;
}
