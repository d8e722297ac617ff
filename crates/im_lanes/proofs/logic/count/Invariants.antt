use Rattle.std.proofs.Common.{◌≡◌, ◌*◌, count_by, take}
use Rattle.im_lanes.proofs.logic.count.Given as goal

abbrev pub invariant-loop-place : goal.invariant-loop-place
invariant-loop-place l = record {
  so_far : l.total ≡ count_by (λ chosen. chosen) (take (l.place * 64) l.mask);
}
