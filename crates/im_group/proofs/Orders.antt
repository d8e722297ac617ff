-- The orders of the keys of groups, of cells and of records are total.
use Rattle.std.proofs.Common.{ℕ, ◌+◌, Bool, true, false, [], ◌∷◌, List, drop, get_or, refl}
use Rattle.std.specs.Cmp.{IsTotalOrder}
use Rattle.std.specs.FinMap.{IsAntisymmetric, slice_cmp-IsAntisymmetric}
use Rattle.std.specs.Cmp.Lexicographic.{lists_total}
use Rattle.std.proofs.lemmas.Cmp.{on_total, then_total, back_total}
use Rattle.im_values.proofs.ForCallers.{order_total, order_same}
use Rattle.im_syntax.specs.declared.bound.Key.{Key}
use Rattle.im_group.specs.declared.cell.Cell.TheVariants as cell
use Rattle.im_group.specs.Cells.{value_of, cell_order}
use Rattle.im_group.specs.Partials.{key_order}
use Rattle.im_group.specs.Answers.{directed, by_keys, record_order}

-- ---- keys of groups

pub key_total : IsTotalOrder key_order
key_total = lists_total order_total

pub key_same : IsAntisymmetric key_order
key_same = slice_cmp-IsAntisymmetric order_same

-- ---- records

pub cell_total : IsTotalOrder cell_order
cell_total = on_total value_of order_total

pub directed_total : (descending : Bool) → IsTotalOrder (directed descending)
directed_total false = cell_total
directed_total true = back_total cell_total

pub by_keys_total : (keys : List Key) (place : ℕ) → IsTotalOrder (by_keys keys place)
by_keys_total [] place = record { antisymm = λ x y. refl; trans = λ x y z p q. p; congr = λ x y z p. refl }
by_keys_total (k ∷ ks) place =
    then_total (on_total (λ xs. get_or xs place cell.Null) (directed_total k.descending)) (by_keys_total ks (place + 1))

pub record_total : (keys : List Key) (count : ℕ) → IsTotalOrder (record_order keys count)
record_total keys count = on_total (drop count) (by_keys_total keys 0)
