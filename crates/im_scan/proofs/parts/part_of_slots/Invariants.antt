use Rattle.std.proofs.Common.{◌≡◌, take}
use Rattle.im_group.specs.Partials.{partial}
use Rattle.im_scan.specs.inner.Steps.{numbered_from}
use Rattle.im_scan.proofs.parts.part_of_slots.Given as goal

-- the part of the rows so far
abbrev pub invariant-loop-i : goal.invariant-loop-i
invariant-loop-i l = l.part ≡ partial l.asking (numbered_from l.first (take l.i l.slots))
