use Rattle.std.proofs.Common.{◌≡◌, vec_len}
use Rattle.im_unit.specs.Holding.{AreShort, HaveWidth}
use Rattle.check_parts.proofs.unit.changed_rows.Given as goal

abbrev pub invariant-loop-place : goal.invariant-loop-place
invariant-loop-place l = record {
  many : vec_len l.rows ≡ l.place;
  width : HaveWidth 3 l.rows.items;
  short : AreShort l.rows.items;
}
