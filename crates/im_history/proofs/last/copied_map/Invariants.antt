use Rattle.std.proofs.Common.{◌≡◌, ◌++◌}
use Rattle.std.specs.List.Sorted.{IsStrictlySortedBy}
use Rattle.std.specs.Map.{keys_of}
use Rattle.std.specs.Ordering.{nat_cmp}
use Rattle.im_history.proofs.last.copied_map.Given as goal

-- the rows so far and those that are left are all of them, in order
abbrev pub invariant-loop-rid : goal.invariant-loop-rid
invariant-loop-rid l = record {
  all : l.copies.entries ++ l.rid-iterator ≡ l.fn.rows.entries;
  rising : IsStrictlySortedBy nat_cmp (keys_of l.fn.rows.entries);
}
