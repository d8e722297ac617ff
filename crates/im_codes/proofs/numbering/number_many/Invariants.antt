use Rattle.std.proofs.Common.{◌≡◌, length, vec_len}
use Rattle.std.specs.Prelude.{vec_capacity}
use Rattle.im_codes.specs.Dictionary.{lent}
use Rattle.im_codes.specs.inner.Numbering.{IsNumberedTo}
use Rattle.im_codes.proofs.numbering.number_many.Given as goal

-- the numbers so far, and room for all of them
abbrev pub invariant-loop-value : goal.invariant-loop-value
invariant-loop-value l = record {
  numbered : IsNumberedTo (lent l.values) (lent l.seen.keys) l.numbers.items l.value-index;
  long : vec_len l.numbers ≡ l.value-index;
  room : vec_capacity l.numbers ≡ length l.values;
}
