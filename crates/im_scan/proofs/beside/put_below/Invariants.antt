use Rattle.std.proofs.Common.{◌≡◌, ◌≤◌, ◌-◌, ◌++◌, length, drop}
use Rattle.im_scan.proofs.beside.put_below.Given as goal

-- what is put and what is left are as at first
abbrev pub invariant-loop-at : goal.invariant-loop-at
invariant-loop-at l = record {
  within : l.at ≤ length l.fetched;
  whole : l.rows.items ++ drop l.at l.fetched ≡ l.fn.rows.items ++ drop l.from l.fetched;
}

abbrev pub decreases-loop-at : goal.decreases-loop-at
decreases-loop-at l = length l.fetched - l.at
