use Rattle.std.proofs.Common.{◌+◌, ◌-◌, ◌≤◌}
use Rattle.im_scan.proofs.WalkLemmas.{IsStretch}
use Rattle.im_scan.proofs.walking.take_stretch.Given as goal

-- the part went on by the rows up to this place
abbrev pub invariant-loop-place : goal.invariant-loop-place
invariant-loop-place l = record {
  stretch : IsStretch l.asking l.kept.unit.now l.kept.places l.first l.from l.fn.part l.at l.part;
  within : l.first + l.at ≤ l.end;
}

abbrev pub decreases-loop-place : goal.decreases-loop-place
decreases-loop-place l = l.past - l.at
