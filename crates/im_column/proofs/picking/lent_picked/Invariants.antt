use Rattle.std.proofs.Common.{◌≡◌, length, take, vec_len}
use Rattle.std.specs.Prelude.{vec_capacity}
use Rattle.im_codes.specs.Dictionary.{lent}
use Rattle.im_column.specs.Picks.{values_picked}
use Rattle.im_column.proofs.picking.lent_picked.Given as goal

-- the values at the places so far, and room for all of them
abbrev pub invariant-loop-i : goal.invariant-loop-i
invariant-loop-i l = record {
  picked : lent l.values.items ≡ values_picked l.old (lent l.fresh) (take l.i l.places);
  long : vec_len l.values ≡ l.i;
  room : vec_capacity l.values ≡ length l.places;
}
