use Rattle.std.proofs.Common.{take}
use Rattle.im_history.specs.Fetched.{each_at}
use Rattle.im_scan.specs.inner.Pieces.{numbered_all}
use Rattle.im_scan.specs.inner.Steps.{GoesOnBy}
use Rattle.im_scan.proofs.in_place.take_apart.Given as goal

-- the part has taken the rows so far
abbrev pub invariant-loop-at : goal.invariant-loop-at
invariant-loop-at l = GoesOnBy l.asking l.fn.part (numbered_all (each_at (take l.at l.rids) (take l.at l.rows))) l.part
