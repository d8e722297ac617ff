use Rattle.std.proofs.Common.{◌≡◌, length, take, vec_len}
use Rattle.std.specs.Prelude.{vec_capacity}
use Rattle.im_codes.specs.Dictionary.{lent, AreCodesOf}
use Rattle.im_codes.proofs.coding.codes_of.Given as goal

-- the codes so far, and room for all of them
abbrev pub invariant-loop-i : goal.invariant-loop-i
invariant-loop-i l = record {
  codes : AreCodesOf (take l.i (lent l.seen)) l.dict l.codes.items;
  long : vec_len l.codes ≡ l.i;
  room : vec_capacity l.codes ≡ length l.seen;
}
