use Rattle.std.proofs.Common.{◌≡◌, length, take}
use Rattle.im_unit.specs.Holding.{count_present}
use Rattle.im_scan.specs.inner.Left.{without_all}
use Rattle.im_scan.proofs.left.hide_all.Given as goal

-- the rows so far are hidden
abbrev pub invariant-loop-rid : goal.invariant-loop-rid
invariant-loop-rid l = record {
  is : l.spots ≡ without_all l.unit (take l.rid-index l.beside) l.fn.spots;
  long : length l.spots ≡ count_present l.unit.rows;
}
