use Rattle.std.proofs.Common.{◌≡◌, ◌-◌}
use Rattle.im_scan.specs.Faces.{unit_of}
use Rattle.im_scan.specs.inner.Steps.{unit_rows}
use Rattle.im_scan.proofs.slots.shown_rows.Given as goal

-- the row numbers before this one are done
abbrev pub invariant-loop-rid : goal.invariant-loop-rid
invariant-loop-rid l = l.slots.items ≡ unit_rows (unit_of l.face) l.first (l.rid - l.first)
