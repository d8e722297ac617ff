use Rattle.std.proofs.Common.{◌≡◌, length, map, take, vec_len}
use Rattle.std.specs.Prelude.{vec_capacity}
use Rattle.im_values.specs.declared.content.Content.TheVariants.{Int}
use Rattle.im_unit.specs.Holding.{values_in}
use Rattle.im_unit.specs.inner.Kept.{lent_wide}
use Rattle.im_unit.proofs.building.numbers_in.Given as goal

-- the numbers of the rows so far, and room for all of them
abbrev pub invariant-loop-i : goal.invariant-loop-i
invariant-loop-i l = record {
  numbers : map (λ number. Int number) l.numbers.items ≡ values_in l.column (lent_wide l.defaults (take l.i l.rows));
  long : vec_len l.numbers ≡ l.i;
  room : vec_capacity l.numbers ≡ length l.rows;
}
