use Rattle.std.proofs.Common.{drop}
use Rattle.im_scan.specs.inner.Left.{AreBetween}
use Rattle.im_scan.proofs.left.are_between.Given as goal

-- where what is left lies between, so do all
abbrev pub invariant-loop-rid : goal.invariant-loop-rid
invariant-loop-rid l = AreBetween l.low l.end (drop l.rid-index l.rows) → AreBetween l.first l.end l.rows
