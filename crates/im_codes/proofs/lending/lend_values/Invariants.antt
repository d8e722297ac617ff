use Rattle.std.proofs.Common.{◌≡◌, length, take, vec_len}
use Rattle.std.specs.Prelude.{vec_capacity}
use Rattle.im_codes.specs.Dictionary.{lent}
use Rattle.im_codes.proofs.lending.lend_values.Given as goal

-- the values so far are lent, and there is room for all of them
abbrev pub invariant-loop-value : goal.invariant-loop-value
invariant-loop-value l = record {
  lends : lent l.all.items ≡ take l.value-index l.values;
  long : vec_len l.all ≡ l.value-index;
  room : vec_capacity l.all ≡ length l.values;
}
