use Rattle.std.proofs.Common.{◌≤◌, ◌-◌}
use Rattle.im_scan.specs.inner.Walk.{AreClear}
use Rattle.im_scan.proofs.kept.next_chosen.Given as goal

-- nothing is chosen so far
abbrev pub invariant-loop-at : goal.invariant-loop-at
invariant-loop-at l = record {
  low : l.from ≤ l.at;
  clear : AreClear l.mask l.from l.at;
}

abbrev pub decreases-loop-at : goal.decreases-loop-at
decreases-loop-at l = l.end - l.at
