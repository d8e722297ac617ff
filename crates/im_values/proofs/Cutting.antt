-- A block of values, cut into rows.
use Rattle.std.proofs.Common.{◌≡◌, ℕ, ◌+◌, ◌-◌, ◌*◌, List, [], ◌∷◌, ◌++◌, zero, suc, drop, refl, arith}
use Rattle.std.specs.List.{slice_range}
use Rattle.std.proofs.lemmas.List.{drop-drop}
use Rattle.im_values.specs.declared.content.Content.{Content as Value}
use Rattle.im_values.specs.Stretches.{cut}

one_more : (count width : ℕ) → width + count * width ≡ suc count * width
one_more count width = grind arith

none : (width : ℕ) → 0 * width ≡ 0
none width = omega arith

wide : (at width : ℕ) → at * width + width - at * width ≡ width
wide at width = omega arith

-- the rows so far and one more
pub cut_next : (count width : ℕ) (values : List Value) →
    cut (suc count) width values ≡ cut count width values ++ slice_range values (count * width) (count * width + width) ∷ []
cut_next zero width values = rw (wide 0 width, none width) refl
cut_next (suc count) width values =
    rw (cut_next count width (drop width values), drop-drop (count * width) width values, one_more count width, wide (suc count) width, wide count width) refl
