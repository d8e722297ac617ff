use Rattle.std.proofs.Common.{◌≡◌, length, take, vec_len}
use Rattle.std.specs.Prelude.{vec_capacity}
use Rattle.im_unit.specs.Holding.{values_in}
use Rattle.im_unit.specs.inner.Kept.{lent_values}
use Rattle.im_unit.proofs.rebuilding.values_fresh.Given as goal

-- the values of the rows so far, and room for all of them
abbrev pub invariant-loop-i : goal.invariant-loop-i
invariant-loop-i l = record {
  lends : lent_values l.values.items ≡ values_in l.column (take l.i l.fresh);
  long : vec_len l.values ≡ l.i;
  room : vec_capacity l.values ≡ length l.fresh;
}
