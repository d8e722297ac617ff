use Rattle.std.proofs.Common.{◌-◌, length}
use Rattle.im_race.proofs.LinesLemmas.{IsCut}
use Rattle.im_race.proofs.lines.split_race.Given as goal

abbrev pub invariant-loop-at : goal.invariant-loop-at
invariant-loop-at l = IsCut l.lines l.at

abbrev pub decreases-loop-at : goal.decreases-loop-at
decreases-loop-at l = length l.lines - l.at
