use Rattle.std.proofs.Common.{◌-◌, length}
use Rattle.im_tables.specs.inner.Words.{AreBefore}
use Rattle.im_tables.proofs.flag_line.first_other.Given as goal

-- the words so far are blank
abbrev pub invariant-loop-place : goal.invariant-loop-place
invariant-loop-place l = AreBefore l.blank l.words l.place

abbrev pub decreases-loop-place : goal.decreases-loop-place
decreases-loop-place l = length l.words - l.place
