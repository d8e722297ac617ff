use Rattle.std.proofs.Common.{◌≡◌, map, take}
use Rattle.im_session.proofs.scan.explanation.Given as goal
use Rattle.im_statements.specs.Scans.{explained}

-- the marks so far
abbrev pub invariant-loop-mark : goal.invariant-loop-mark
invariant-loop-mark l = record { made : l.extents.items ≡ map explained (take l.mark-index l.marks) }
