use Rattle.std.proofs.Common.{◌≡◌, ℕ, ◌+◌, ◌<◌, [], length, map, get_or}
use Rattle.std.specs.Arc.{arc_value}
use Rattle.im_values.specs.declared.content.Content.TheVariants.{Null}
use Rattle.im_column.specs.Forms.{AreLent}
use Rattle.im_unit.specs.inner.Kept.{lent_values}
use Rattle.im_unit.proofs.reading.lend_piece.Given as goal

-- so many columns have lent theirs
abbrev pub invariant-loop-i : goal.invariant-loop-i
invariant-loop-i l = record {
  many : length l.piece.items ≡ length l.columns;
  lends : (i : ℕ) → i < l.i →
      AreLent (λ k. get_or (get_or (map arc_value l.columns) i []) (l.first + k) Null) 64 (lent_values (get_or l.piece.items i []));
}
