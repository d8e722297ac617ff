use Rattle.std.proofs.Common.{take}
use Rattle.im_scan.specs.inner.Pieces.{numbered_all}
use Rattle.im_scan.specs.inner.Steps.{GoesOnBy}
use Rattle.im_scan.proofs.by_columns.take_lent.Given as goal

-- the part has taken the rows so far
abbrev pub invariant-loop-rid : goal.invariant-loop-rid
invariant-loop-rid l = GoesOnBy l.asking l.fn.part (numbered_all (take l.rid-index l.rows)) l.part
